-- The calls of a part's vertices, one more at a time.
use Rattle.std.proofs.Common.{◌≡◌, ℕ, ℤ, ◌+◌, ◌-◌, ◌^◌, ◌<◌, ◌≤◌, min, List, [], ◌∷◌, ◌++◌, length, get_or, map, take, drop, set, refl, ap, sym, subst, ◌∙◌, arith, append-nil}
use Rattle.std.specs.List.{All, fold}
use Rattle.std.specs.List.Sorted.{IsPermutation}
use Rattle.std.proofs.lemmas.List.{drop-drop, drop-set-lt, get_or-drop, get_or-map, length-map, length-take-le, map-append, take_all, take_more, take_more_set}
use Rattle.std.proofs.lemmas.List.Concat.{flat_map-append}
use Rattle.std.proofs.lemmas.List.Sorted.{IsPermutation-append_left, IsPermutation-refl}
use Rattle.std.proofs.lemmas.List.Sums.{fold-append, sum_by_push}
use Rattle.semantics.specs.Call.{Outcome}
use Rattle.graph.specs.declared.vertex.Vertex.{Vertex}
use Rattle.graph.specs.Entry.{Entry, entries_of, entry_of, id_at, ids, vertex_id}
use Rattle.inbox.specs.declared.letters.Letter.{Letter}
use Rattle.compute.specs.declared.part_output.PartOutput.{PartOutput}
use Rattle.job_state.specs.declared.state.VertexState.{VertexState}
use Rattle.superstep.specs.declared.task.Shared.{Shared}
use Rattle.job_state.specs.State.{capped, state_id}
use Rattle.superstep.specs.Folds.{aggregated, give}
use Rattle.verified.specs.Aggregators.{aggregator_starts}
use Rattle.superstep.specs.Snapshot.{Row}
use Rattle.superstep.specs.Superstep.{contributions_of, idle, units_left}
use Rattle.superstep.specs.Tasks.{ComesBack, VertexOutcome, emptied, letters_from, letters_of, outcomes_in}
use Rattle.superstep.specs.inside.Barrier.{left_id}
use Rattle.compute.specs.inside.PartOutput.{Adds, CallsPart, CallsVertex, IsNothing, rows_of}
use Rattle.superstep.specs.inside.Called.{HasProperIds, left_in, row_of}

-- a total that stopped, and one more
stopped : (most total more : ℕ) → min (min total most + more) most ≡ min (total + more) most
stopped most total more = omega arith

pub capped_more : (total more : ℕ) → capped (capped total + more) ≡ capped (total + more)
capped_more total more = stopped (2 ^ 128 - 1) total more

pub units_added : (old new total more : ℕ) → old ≡ capped total → new ≡ capped (old + more) → new ≡ capped (total + more)
units_added old new total more was added = added ∙ ap (λ n. capped (n + more)) was ∙ capped_more total more

-- a vertex that is not called adds nothing
pub adds_idle : (row : Row) (id : ℕ) (left : PartOutput) → Adds id (idle row) left left
adds_idle row id left = record {
  letters = sym (append-nil left.letters);
  aggregators = refl;
  units = λ total was. was ∙ ap capped (omega arith);
}

pub none_called : (shared : Shared) (left : PartOutput) → IsNothing left → CallsPart shared [] [] [] left
none_called shared left is = record {
  left = [];
  comes = record {
    vertices = refl;
    letters = subst (λ (xs : List Letter). IsPermutation [] xs) (sym is.letters) (IsPermutation-refl []);
    aggregators = is.aggregators;
    units = is.units;
  };
  ids = refl;
  is = λ outcomes tells. refl;
}

one_outcome_more : (left : List VertexOutcome) (one : VertexOutcome) → outcomes_in (left ++ one ∷ []) ≡ outcomes_in left ++ one.1 ∷ []
one_outcome_more left one = map-append (λ (o : VertexOutcome). o.1) left (one ∷ [])

one_letters_more : (left : List VertexOutcome) (one : VertexOutcome) → letters_of (left ++ one ∷ []) ≡ letters_of left ++ letters_from one.0 one.1
one_letters_more left one =
    flat_map-append (λ (o : VertexOutcome). letters_from o.0 o.1) left (one ∷ [])
    ∙ ap (λ (xs : List Letter). letters_of left ++ xs) (append-nil (letters_from one.0 one.1))

one_more_back : (left : List VertexOutcome) (one : VertexOutcome) (states : List VertexState) (state : VertexState) (old new : PartOutput)
    → ComesBack left states old.letters old.aggregators old.units → state ≡ emptied one → Adds one.0 one.1 old new
    → ComesBack (left ++ one ∷ []) (states ++ state ∷ []) new.letters new.aggregators new.units
one_more_back left one states state old new back is adds = record {
  vertices =
      ap (λ (xs : List VertexState). xs ++ state ∷ []) back.vertices
      ∙ ap (λ (x : VertexState). map emptied left ++ x ∷ []) is
      ∙ sym (map-append emptied left (one ∷ []));
  letters =
      subst (λ (xs : List Letter). IsPermutation (letters_of (left ++ one ∷ [])) xs) (sym adds.letters)
      (subst (λ (xs : List Letter). IsPermutation xs (old.letters ++ letters_from one.0 one.1)) (sym (one_letters_more left one))
      (IsPermutation-append_left (letters_from one.0 one.1) (letters_of left) old.letters back.letters));
  aggregators =
      adds.aggregators
      ∙ ap (λ (aggregators : List ℤ). fold give aggregators one.1.contributions) back.aggregators
      ∙ sym (ap (λ (os : List Outcome). aggregated (contributions_of os)) (one_outcome_more left one)
      ∙ ap aggregated (flat_map-append (λ (o : Outcome). o.contributions) (outcomes_in left) (one.1 ∷ []))
      ∙ fold-append give aggregator_starts (contributions_of (outcomes_in left)) (one.1.contributions ++ [])
      ∙ ap (λ (given : List (ℕ × ℤ)). fold give (aggregated (contributions_of (outcomes_in left))) given) (append-nil one.1.contributions));
  units =
      adds.units (units_left (outcomes_in left)) back.units
      ∙ sym (ap (λ (os : List Outcome). capped (units_left os)) (one_outcome_more left one)
      ∙ ap capped (sum_by_push (λ (o : Outcome). o.units) (outcomes_in left) one.1));
}

rows-push : (entries : List Entry) (vertices : List VertexState) (entry : Entry) (vertex : VertexState) → length entries ≡ length vertices
    → rows_of (entries ++ entry ∷ []) (vertices ++ vertex ∷ []) ≡ rows_of entries vertices ++ row_of entry vertex ∷ []
rows-push [] [] entry vertex same = refl
rows-push [] (v ∷ vs) entry vertex same = absurd (omega arith)
rows-push (e ∷ es) [] entry vertex same = absurd (omega arith)
rows-push (e ∷ es) (v ∷ vs) entry vertex same = ap (λ rows. row_of e v ∷ rows) (rows-push es vs entry vertex (omega arith))

-- what is still to be called is as it was
pub at_rest : (now before : List VertexState) (i : ℕ) (d : VertexState) → drop i now ≡ drop i before → get_or now i d ≡ get_or before i d
at_rest now before i d rest =
    ap (λ k. get_or now k d) (omega arith) ∙ sym (get_or-drop i now 0 d) ∙ ap (λ (xs : List VertexState). get_or xs 0 d) rest ∙ get_or-drop i before 0 d
    ∙ ap (λ k. get_or before k d) (omega arith)

-- the entry in the same place has its id
pub same_id : (entries : List Vertex) (before now : List VertexState) (i : ℕ) (entry : Vertex) (d : VertexState) → ids (entries_of entries) ≡ map state_id before
    → drop i now ≡ drop i before → i < length entries → i < length before → entry ≡ get_or entries i entry → entry.id ≡ (get_or now i d).id
same_id entries before now i entry d same rest inside below is =
    let there = length-map entries entry_of in
    ap vertex_id is
    ∙ ap id_at (sym (get_or-map entry_of entries i entry (entry_of entry) inside))
    ∙ sym (get_or-map id_at (entries_of entries) i (entry_of entry) 0 (omega arith))
    ∙ ap (λ (numbers : List ℕ). get_or numbers i 0) same
    ∙ get_or-map state_id before i d 0 below
    ∙ ap state_id (sym (at_rest now before i d rest))

pub entry_at : (entries : List Vertex) (i : ℕ) (entry : Vertex) → i < length entries → entry ≡ get_or entries i entry
    → entry_of entry ≡ get_or (entries_of entries) i (entry_of entry)
entry_at entries i entry inside is = ap entry_of is ∙ sym (get_or-map entry_of entries i entry (entry_of entry) inside)

-- as many entries as vertices
pub as_many : (entries : List Vertex) (before : List VertexState) → ids (entries_of entries) ≡ map state_id before → length entries ≡ length before
as_many entries before same =
    sym (length-map entries entry_of) ∙ sym (length-map (entries_of entries) id_at) ∙ ap length same ∙ length-map before state_id

pub has_entry : (entries : List Vertex) (before : List VertexState) (i : ℕ) → ids (entries_of entries) ≡ map state_id before → i < length before → i < length entries
has_entry entries before i same below = omega (arith, as_many entries before same)

pub proper_at : (entries : List Vertex) (i : ℕ) (entry : Vertex) → i < length entries → entry ≡ get_or entries i entry
    → All HasProperIds (entries_of entries) → HasProperIds (entry_of entry)
proper_at entries i entry inside is all =
    let there = length-map entries entry_of in
    rw (entry_at entries i entry inside is) (all i (entry_of entry) (omega arith))

-- one vertex more
pub one_more_called : (shared : Shared) (entries : List Entry) (before after : List VertexState) (entry : Entry) (vertex changed : VertexState) (old new : PartOutput)
    → length entries ≡ length before → CallsPart shared entries before after old → CallsVertex shared entry vertex changed old new
    → CallsPart shared (entries ++ entry ∷ []) (before ++ vertex ∷ []) (after ++ changed ∷ []) new
one_more_called shared entries before after entry vertex changed old new same part one = record {
  left = part.left ++ (vertex.id, one.outcome) ∷ [];
  comes = one_more_back part.left (vertex.id, one.outcome) after changed old new part.comes one.vertex one.adds;
  ids =
      map-append left_id part.left ((vertex.id, one.outcome) ∷ [])
      ∙ ap (λ (numbers : List ℕ). numbers ++ vertex.id ∷ []) part.ids
      ∙ sym (map-append state_id before (vertex ∷ []));
  is = λ outcomes tells.
      let leave : Row → VertexOutcome = λ (row : Row). (row.id, left_in outcomes shared row) in
      ap (λ (xs : List VertexOutcome). xs ++ (vertex.id, one.outcome) ∷ []) (part.is outcomes tells)
      ∙ ap (λ (o : Outcome). map leave (rows_of entries before) ++ (vertex.id, o) ∷ []) (one.is outcomes tells)
      ∙ sym (ap (λ (rows : List Row). map leave rows) (rows-push entries before entry vertex same)
      ∙ map-append leave (rows_of entries before) (row_of entry vertex ∷ []));
}

-- the next vertex of a part
pub part_step : (shared : Shared) (entries : List Entry) (before now : List VertexState) (i : ℕ) (entry : Entry) (e : VertexState) (changed : VertexState) (old new : PartOutput)
    → length entries ≡ length before → length now ≡ length before → i < length now → drop i now ≡ drop i before → entry ≡ get_or entries i entry
    → CallsPart shared (take i entries) (take i before) (take i now) old → CallsVertex shared entry (get_or now i e) changed old new
    → CallsPart shared (take (i + 1) entries) (take (i + 1) before) (take (i + 1) (set now i changed)) new
part_step shared entries before now i entry e changed old new same long below rest is part one =
    let there : get_or now i e ≡ get_or before i e = at_rest now before i e rest in
    let even : length (take i entries) ≡ length (take i before) =
    length-take-le i entries (omega arith) ∙ sym (length-take-le i before (omega arith)) in
    let here = subst (λ (v : VertexState). CallsVertex shared entry v changed old new) there one in
    let made = one_more_called shared (take i entries) (take i before) (take i now) entry (get_or before i e) changed old new even part here in
    let longer : take i entries ++ entry ∷ [] ≡ take (i + 1) entries =
    ap (λ (x : Entry). take i entries ++ x ∷ []) is ∙ sym (take_more entries i entry (omega arith)) in
    subst (λ (xs : List Entry). CallsPart shared xs (take (i + 1) before) (take (i + 1) (set now i changed)) new) longer
    (subst (λ (xs : List VertexState). CallsPart shared (take i entries ++ entry ∷ []) xs (take (i + 1) (set now i changed)) new) (sym (take_more before i e (omega arith)))
    (subst (λ (xs : List VertexState). CallsPart shared (take i entries ++ entry ∷ []) (take i before ++ get_or before i e ∷ []) xs new) (sym (take_more_set now i changed below)) made))

pub rest_step : (before now : List VertexState) (i : ℕ) (changed : VertexState) → drop i now ≡ drop i before
    → drop (i + 1) (set now i changed) ≡ drop (i + 1) before
rest_step before now i changed rest =
    drop-set-lt (i + 1) now i changed (omega arith)
    ∙ sym (drop-drop 1 i now) ∙ ap (λ (xs : List VertexState). drop 1 xs) rest ∙ drop-drop 1 i before

pub part_end : (shared : Shared) (entries : List Entry) (before now : List VertexState) (i : ℕ) (left : PartOutput)
    → length entries ≡ length before → length now ≡ length before → length now ≤ i
    → CallsPart shared (take i entries) (take i before) (take i now) left → CallsPart shared entries before now left
part_end shared entries before now i left same long over part =
    subst (λ (xs : List Entry). CallsPart shared xs before now left) (take_all i entries (omega arith))
    (subst (λ (xs : List VertexState). CallsPart shared (take i entries) xs now left) (take_all i before (omega arith))
    (subst (λ (xs : List VertexState). CallsPart shared (take i entries) (take i before) xs left) (take_all i now (omega arith)) part))

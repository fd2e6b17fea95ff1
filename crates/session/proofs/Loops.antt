-- How far serving has come, at each turn of its loops.
use Rattle.std.proofs.Common.{inl, inr, ◌≡◌, ℕ, ◌+◌, ◌<◌, Bool, true, false, ◌||◌, List, [], ◌∷◌, ◌++◌, length, map, take, Option, Some, Ok, Err, refl, ap, sym, subst, ◌∙◌, arith, append_assoc, MatchBool}
use Rattle.std.specs.List.{list_any}
use Rattle.std.specs.Io.KnownBytes.{Consumes, IsAtEnd, Keeps}
use Rattle.std.proofs.KnownBytes.{Consumes-kept, Consumes-nil, Consumes-trans}
use Rattle.std.proofs.lemmas.List.{append-nil, map-append, take_all}
use Rattle.std.proofs.Math.Seq.{take-append-add, take-append_seam}
use Rattle.line_text.proofs.Writing.{appends_nothing}
use Rattle.sources.specs.Disk.{Disk, Stays}
use Rattle.sources.proofs.Disks.{stays_again, stays_same}
use Rattle.session.specs.declared.serving.ServeFault.{ServeFault}
use Rattle.session.specs.declared.serving.ServeFault.TheVariants as fault
use Rattle.session.specs.Lines.{lines_from, rest_from}
use Rattle.session.specs.Commands.{Asked, asked_in, asked_of, is_quit}
use Rattle.session.specs.Maps.{Maps}
use Rattle.session.specs.Runs.{Runs}
use Rattle.session.specs.Serving.{Serves}
use Rattle.session.specs.Transcript.{IsReplyTo, Tells}
use Rattle.session.specs.inside.Cutting.{BeginsWithLine, HasNoLine}
use Rattle.session.specs.inside.Underway.{AnswersLine, BreaksAt, GetsSome, GoesOn, HasBroken, HasTold, IsUnderway, Quits, asked_from}
use Rattle.session.proofs.Cuts.{asked_from-kept, asked_of-kept, lines_from-append, rest_from-append, rest_from-kept}
use Rattle.session.proofs.Telling.{answers_before, broken_again, broken_next, told_again, told_all, told_quit, underway_again, underway_next, underway_none}

any_middle : (done : List Asked) (asked : Asked) (more : List Asked) → is_quit asked ≡ true → list_any is_quit (done ++ asked ∷ more) ≡ true
any_middle [] asked more quits = ap (λ b. b || list_any is_quit more) quits
any_middle (first ∷ done) asked more quits = elim (is_quit first) as (λ b. (b || list_any is_quit (done ++ asked ∷ more)) ≡ true) [
  | true ↦ refl
  | false ↦ any_middle done asked more quits
]

any_later : (done more : List Asked) → list_any is_quit more ≡ true → list_any is_quit (done ++ more) ≡ true
any_later [] more quits = quits
any_later (first ∷ done) more quits = elim (is_quit first) as (λ b. (b || list_any is_quit (done ++ more)) ≡ true) [
  | true ↦ refl
  | false ↦ any_later done more quits
]

-- ---- lines in some bytes

-- So many of the commands were answered, and this is left of the bytes, behind what is kept of a line.
pub record IsAt (disk late : Disk) (runs : Runs) (maps now : Maps) (kept bytes line rest : List ℕ) (old new : Option (List ℕ)) : Type 0 where
  pub done : List Asked
  pub asked : asked_from kept bytes ≡ done ++ asked_from line rest
  pub left : rest_from kept bytes ≡ rest_from line rest
  pub underway : IsUnderway disk runs maps done old new now
  pub stays : Stays disk late

pub at_start : (disk : Disk) (runs : Runs) (maps : Maps) (kept bytes : List ℕ) (known : Option (List ℕ)) → IsAt disk disk runs maps maps kept bytes kept bytes known known
at_start disk runs maps kept bytes known = record {
  done = [];
  asked = refl;
  left = refl;
  underway = underway_none disk runs maps known;
  stays = stays_same disk;
}

module _ (disk late : Disk) (runs : Runs) (maps now : Maps) (kept bytes line rest : List ℕ) (old middle : Option (List ℕ))
    (at : IsAt disk late runs maps now kept bytes line rest old middle) where
  -- the next command, and those behind it
  asked_next : (front others : List ℕ) → BeginsWithLine rest front others → asked_from kept bytes ≡ at.done ++ asked_of (line ++ front) ∷ asked_from [] others
  asked_next front others cut = at.asked ∙ ap (λ lines. at.done ++ map asked_of lines) (cut.first line)

  -- a line of which enough is kept
  asks_so : (front full : List ℕ) → full ≡ take 4097 (line ++ front) → asked_of full ≡ asked_of (line ++ front)
  asks_so front full is = ap asked_of is ∙ asked_of-kept (line ++ front)

  module _ (front others full : List ℕ) (cut : BeginsWithLine rest front others) (is : full ≡ take 4097 (line ++ front)) (after : Maps) (new : Option (List ℕ)) where
    pub at_next : (last : Disk) → AnswersLine late runs now (asked_of full) middle new after (Ok false) → Stays late last
        → IsAt disk last runs maps after kept bytes [] others old new
    at_next last answers stays =
        let same = asks_so front full is in
        record {
          done = at.done ++ asked_of (line ++ front) ∷ [];
          asked = asked_next front others cut ∙ sym (append_assoc at.done (asked_of (line ++ front) ∷ []) (asked_from [] others));
          left = at.left ∙ cut.rest line;
          underway = underway_next disk runs maps at.done old middle new now (asked_of (line ++ front)) answers.reply after at.underway
              (answers_before disk late runs now answers.reply after at.stays (asked_of (line ++ front))
              (subst (λ asked. IsReplyTo late runs now asked answers.reply after) same answers.answers))
              (sym (answers.written.1 ∙ ap is_quit same)) answers.written.0;
          stays = stays_again disk late last at.stays stays;
        }

    pub at_quit : AnswersLine late runs now (asked_of full) middle new after (Ok true) → Quits disk runs maps kept bytes old new
    at_quit answers =
        let same = asks_so front full is in
        let quits : is_quit (asked_of (line ++ front)) ≡ true = sym (answers.written.1 ∙ ap is_quit same) in
        record {
          told = subst (λ asked. HasTold disk runs maps asked old new) (sym (asked_next front others cut))
              (told_quit disk runs maps at.done old middle new now (asked_of (line ++ front)) answers.reply after (asked_from [] others) at.underway
              (answers_before disk late runs now answers.reply after at.stays (asked_of (line ++ front))
              (subst (λ asked. IsReplyTo late runs now asked answers.reply after) same answers.answers))
              quits answers.written.0);
          quits = ap (list_any is_quit) (asked_next front others cut) ∙ any_middle at.done (asked_of (line ++ front)) (asked_from [] others) quits;
        }

    pub at_break : (told : ServeFault) → AnswersLine late runs now (asked_of full) middle new after (Err told)
        → (count : ℕ) × BreaksAt disk runs maps (take count (asked_from kept bytes)) old new told
    at_break told answers =
        let same = asks_so front full is in
        let asked : List Asked = at.done ++ asked_of (line ++ front) ∷ [] in
        let broken : HasBroken disk runs maps asked old new =
        broken_next disk runs maps at.done old middle new now (asked_of (line ++ front)) answers.reply after at.underway
        (answers_before disk late runs now answers.reply after at.stays (asked_of (line ++ front))
        (subst (λ asked. IsReplyTo late runs now asked answers.reply after) same answers.answers))
        answers.written.1 in (
          length asked,
          subst (λ told. BreaksAt disk runs maps (take (length asked) (asked_from kept bytes)) old new told) (sym answers.written.0)
              (subst (λ asked. HasBroken disk runs maps asked old new)
              (sym (ap (take (length asked)) (asked_next front others cut ∙ sym (append_assoc at.done (asked_of (line ++ front) ∷ []) (asked_from [] others)))
              ∙ take-append_seam asked (asked_from [] others)))
              broken),
        )

  -- no memory for what is kept
  pub at_want : (count : ℕ) × BreaksAt disk runs maps (take count (asked_from kept bytes)) old middle fault.OutOfMemory
  at_want = (
    length at.done,
    subst (λ asked. HasTold disk runs maps asked old middle) (sym (ap (take (length at.done)) at.asked ∙ take-append_seam at.done (asked_from line rest)))
        (told_all disk runs maps at.done old middle now at.underway),
  )

  -- no line ends in what is left
  pub at_end : (left : List ℕ) → HasNoLine rest → left ≡ take 4097 (line ++ rest) → GoesOn disk runs maps kept bytes old middle now left
  at_end left none is = record {
    underway = subst (λ asked. IsUnderway disk runs maps asked old middle now)
        (sym (at.asked ∙ ap (λ lines. at.done ++ map asked_of lines) (none.none line) ∙ append-nil at.done)) at.underway;
    keeps = is ∙ sym (ap (take 4097) (at.left ∙ none.rest line));
  }

-- ---- bytes, piece by piece

-- So many bytes were read and answered.
pub record IsServing (disk late : Disk) (runs : Runs) (maps now : Maps) (unread left old new : Option (List ℕ)) (line : List ℕ) : Type 0 where
  pub read : List ℕ
  pub consumed : Consumes unread left read
  pub underway : IsUnderway disk runs maps (asked_in read) old new now
  pub kept : line ≡ take 4097 (rest_from [] read)
  pub stays : Stays disk late

pub serving_start : (disk : Disk) (runs : Runs) (maps : Maps) (unread known : Option (List ℕ)) (line : List ℕ) → line ≡ []
    → IsServing disk disk runs maps maps unread unread known known line
serving_start disk runs maps unread known line empty = record {
  read = [];
  consumed = Consumes-nil unread;
  underway = underway_none disk runs maps known;
  kept = empty;
  stays = stays_same disk;
}

-- there was no memory to begin with
pub served_none : (disk : Disk) (runs : Runs) (maps : Maps) (unread known : Option (List ℕ))
    → Serves {A = Unit {0}} disk runs maps unread unread known known (Err fault.OutOfMemory)
served_none disk runs maps unread known = record {
  read = [];
  consumed = Consumes-nil unread;
  answered = 0;
  all = tt;
  told = [];
  tells = refl;
  written = appends_nothing known;
  ended = tt;
}

module _ (disk late : Disk) (runs : Runs) (maps now : Maps) (unread left old middle : Option (List ℕ)) (line : List ℕ)
    (serving : IsServing disk late runs maps now unread left old middle line) where
  pub serving_interrupted : (rest : Option (List ℕ)) → Keeps left rest → IsServing disk late runs maps now unread rest old middle line
  serving_interrupted rest keeps = record {
    read = serving.read;
    consumed = Consumes-kept unread left rest serving.read serving.consumed keeps;
    underway = serving.underway;
    kept = serving.kept;
    stays = serving.stays;
  }

  -- what was read before and now
  asked_both : (bytes : List ℕ) → asked_in (serving.read ++ bytes) ≡ asked_in serving.read ++ asked_from line bytes
  asked_both bytes =
      ap (map asked_of) (lines_from-append serving.read bytes [])
      ∙ map-append asked_of (lines_from [] serving.read) (lines_from (rest_from [] serving.read) bytes)
      ∙ ap (λ asked. asked_in serving.read ++ asked)
      (sym (asked_from-kept bytes (rest_from [] serving.read)) ∙ ap (λ begun. asked_from begun bytes) (sym serving.kept))

  kept_both : (bytes : List ℕ) → take 4097 (rest_from line bytes) ≡ take 4097 (rest_from [] (serving.read ++ bytes))
  kept_both bytes =
      ap (λ begun. take 4097 (rest_from begun bytes)) serving.kept
      ∙ rest_from-kept bytes (rest_from [] serving.read)
      ∙ ap (take 4097) (sym (rest_from-append serving.read bytes []))

  -- the input has ended
  pub served_end : (rest : Option (List ℕ)) → Consumes left rest [] → IsAtEnd rest → Serves {A = Unit {0}} disk runs maps unread rest old middle (Ok tt)
  served_end rest consumes at_end =
      let told = told_all disk runs maps (asked_in serving.read) old middle now serving.underway in
      record {
        read = serving.read ++ [];
        consumed = Consumes-trans unread left rest serving.read [] serving.consumed consumes;
        answered = length (asked_in (serving.read ++ []));
        all = refl;
        told = told.told;
        tells = subst (λ asked. Tells disk runs maps asked told.told)
            (sym (take_all (length (asked_in (serving.read ++ []))) (asked_in (serving.read ++ [])) (omega arith) ∙ ap asked_in (append-nil serving.read))) told.tells;
        written = told.appends;
        ended = inr at_end;
      }

  -- reading failed
  pub served_read : (rest : Option (List ℕ)) → Keeps left rest → Serves {A = Unit {0}} disk runs maps unread rest old middle (Err fault.Read)
  served_read rest keeps =
      let told = told_all disk runs maps (asked_in serving.read) old middle now serving.underway in
      record {
        read = serving.read;
        consumed = Consumes-kept unread left rest serving.read serving.consumed keeps;
        answered = length (asked_in serving.read);
        all = refl;
        told = told.told;
        tells = subst (λ asked. Tells disk runs maps asked told.told) (sym (take_all (length (asked_in serving.read)) (asked_in serving.read) (omega arith))) told.tells;
        written = told.appends;
        ended = tt;
      }

  module _ (bytes : List ℕ) (rest : Option (List ℕ)) (consumes : Consumes left rest bytes) (after : Maps) (new : Option (List ℕ)) (next : List ℕ) where
    pub serving_more : (last : Disk) → GoesOn late runs now line bytes middle new after next → Stays late last
        → IsServing disk last runs maps after unread rest old new next
    serving_more last goes stays = record {
      read = serving.read ++ bytes;
      consumed = Consumes-trans unread left rest serving.read bytes serving.consumed consumes;
      underway = subst (λ asked. IsUnderway disk runs maps asked old new after) (sym (asked_both bytes))
          (underway_again disk late runs serving.stays maps (asked_in serving.read) old middle new now (asked_from line bytes) serving.underway after goes.underway);
      kept = goes.keeps ∙ kept_both bytes;
      stays = stays_again disk late last serving.stays stays;
    }

    pub served_quit : Quits late runs now line bytes middle new → Serves {A = Unit {0}} disk runs maps unread rest old new (Ok tt)
    served_quit quits =
        let told = told_again disk late runs serving.stays maps (asked_in serving.read) old middle new now (asked_from line bytes) serving.underway quits.told in
        let asked : List Asked = asked_in (serving.read ++ bytes) in
        record {
          read = serving.read ++ bytes;
          consumed = Consumes-trans unread left rest serving.read bytes serving.consumed consumes;
          answered = length asked;
          all = refl;
          told = told.told;
          tells = subst (λ asked. Tells disk runs maps asked told.told) (sym (take_all (length asked) asked (omega arith) ∙ asked_both bytes)) told.tells;
          written = told.appends;
          ended = inl (ap (list_any is_quit) (asked_both bytes) ∙ any_later (asked_in serving.read) (asked_from line bytes) quits.quits);
        }

    -- the front of what was read before and now
    asked_front : (count : ℕ) → take (length (asked_in serving.read) + count) (asked_in (serving.read ++ bytes)) ≡ asked_in serving.read ++ take count (asked_from line bytes)
    asked_front count =
        ap (take (length (asked_in serving.read) + count)) (asked_both bytes)
        ∙ take-append-add (asked_in serving.read) (asked_from line bytes) count

    pub served_break : (told : ServeFault) (count : ℕ) → BreaksAt late runs now (take count (asked_from line bytes)) middle new told
        → Serves {A = Unit {0}} disk runs maps unread rest old new (Err told)
    served_break fault.Read count breaks = absurd breaks
    served_break fault.Write count breaks =
        let told = broken_again disk late runs serving.stays maps (asked_in serving.read) old middle new now (take count (asked_from line bytes)) serving.underway breaks in
        record {
          read = serving.read ++ bytes;
          consumed = Consumes-trans unread left rest serving.read bytes serving.consumed consumes;
          answered = length (asked_in serving.read) + count;
          all = tt;
          told = told.told;
          tells = subst (λ asked. Tells disk runs maps asked told.told) (sym (asked_front count)) told.tells;
          written = told.begun;
          ended = tt;
        }
    served_break fault.OutOfMemory count breaks =
        let told = told_again disk late runs serving.stays maps (asked_in serving.read) old middle new now (take count (asked_from line bytes)) serving.underway breaks in
        record {
          read = serving.read ++ bytes;
          consumed = Consumes-trans unread left rest serving.read bytes serving.consumed consumes;
          answered = length (asked_in serving.read) + count;
          all = tt;
          told = told.told;
          tells = subst (λ asked. Tells disk runs maps asked told.told) (sym (asked_front count)) told.tells;
          written = told.appends;
          ended = tt;
        }

-- what a read gave
pub gets_some : (unread left : Option (List ℕ)) (chunk : List ℕ) (got : Option ℕ) (count : ℕ) → got ≡ Some count → GetsSome unread left chunk got
    → Consumes unread left (take count chunk)
gets_some unread left chunk got count is gets = (subst (GetsSome unread left chunk) is gets).1

-- and that it was the last
pub gets_none : (unread left : Option (List ℕ)) (chunk : List ℕ) (got : Option ℕ) (count : ℕ) → got ≡ Some count → count ≡ 0 → 0 < length chunk
    → GetsSome unread left chunk got → Consumes unread left [] × IsAtEnd left
gets_none unread left chunk got count is none room gets =
    let some : GetsSome unread left chunk (Some count) = subst (GetsSome unread left chunk) is gets in
    (subst (λ n. Consumes unread left (take n chunk)) none some.1, some.2 none room)

-- whether a line was `quit`, as it is tested
pub answers_so : (disk : Disk) (runs : Runs) (maps now : Maps) (asked : Asked) (old new : Option (List ℕ)) (quits is : Bool) → quits ≡ is
    → AnswersLine disk runs maps asked old new now (Ok quits) → AnswersLine disk runs maps asked old new now (Ok is)
answers_so disk runs maps now asked old new quits is same answers = subst (λ b. AnswersLine disk runs maps asked old new now (Ok b)) same answers

pub bytes_so : (quits is : Bool) (P Q : Type 0) → quits ≡ is → MatchBool quits P Q → MatchBool is P Q
bytes_so quits is P Q same holds = subst (λ b. MatchBool b P Q) same holds

-- More files than one, written one after another.
use Rattle.std.proofs.Common.{inl, inr, ℕ, List, [], ◌∷◌, ◌++◌, take, append-nil, append_assoc, refl, subst, sym}
use Rattle.sources.specs.Disk.{Disk, Stays, Tries, Writes}
use Rattle.sources.specs.Writing.{IsBegun, TriesAll, WritesAll}

pub writes_none : (disk : Disk) → WritesAll [] disk disk
writes_none disk = λ writes wrote. subst disk.wrote (sym (append-nil writes)) wrote

pub writes_one : (path bytes : List ℕ) (before after : Disk) → Writes path bytes before after → WritesAll ((path, bytes) ∷ []) before after
writes_one path bytes before after h = λ writes wrote. h writes wrote

pub writes_behind : (items : List (List ℕ × List ℕ)) (path bytes : List ℕ) (before middle after : Disk) → WritesAll items before middle
    → Writes path bytes middle after → WritesAll (items ++ (path, bytes) ∷ []) before after
writes_behind items path bytes before middle after first then =
    λ writes wrote. subst after.wrote (append_assoc writes items ((path, bytes) ∷ [])) (then (writes ++ items) (first writes wrote))

begun_nothing : (items : List (List ℕ × List ℕ)) → IsBegun items []
begun_nothing [] = refl
begun_nothing (item ∷ items) = inl refl

begun_front : (items others begun : List (List ℕ × List ℕ)) → IsBegun items begun → IsBegun (items ++ others) begun
begun_front [] others begun h = subst (IsBegun others) (sym h) (begun_nothing others)
begun_front (item ∷ items) others begun (inl h) = inl h
begun_front (item ∷ items) others begun (inr (inl h)) = inr (inl h)
begun_front (item ∷ items) others begun (inr (inr h)) = inr (inr (h.0, begun_front items others h.0 h.1, h.2))

all_begun : (items : List (List ℕ × List ℕ)) → IsBegun items items
all_begun [] = refl
all_begun (item ∷ items) = inr (inr (items, all_begun items, refl))

begun_behind : (items others begun : List (List ℕ × List ℕ)) → IsBegun others begun → IsBegun (items ++ others) (items ++ begun)
begun_behind [] others begun h = h
begun_behind (item ∷ items) others begun h = inr (inr (items ++ begun, begun_behind items others begun h, refl))

pub tries_no_file : (items : List (List ℕ × List ℕ)) (disk : Disk) → TriesAll items disk disk
tries_no_file items disk = λ writes wrote. ([], begun_nothing items, subst disk.wrote (sym (append-nil writes)) wrote)

pub tries_one : (path bytes : List ℕ) (before after : Disk) → Tries path bytes before after → TriesAll ((path, bytes) ∷ []) before after
tries_one path bytes before after h = λ writes wrote. elim (h writes wrote) [
  | inl same ↦ ([], inl refl, subst after.wrote (sym (append-nil writes)) same)
  | inr more ↦ ((path, take more.0 bytes) ∷ [], inr (inl (more.0, refl)), more.1)
]

pub tries_front : (items others : List (List ℕ × List ℕ)) (before after : Disk) → TriesAll items before after → TriesAll (items ++ others) before after
tries_front items others before after h = λ writes wrote.
    let tried = h writes wrote in
    (tried.0, begun_front items others tried.0 tried.1, tried.2)

pub tries_behind : (items : List (List ℕ × List ℕ)) (path bytes : List ℕ) (before middle after : Disk) → WritesAll items before middle
    → Tries path bytes middle after → TriesAll (items ++ (path, bytes) ∷ []) before after
tries_behind items path bytes before middle after first then = λ writes wrote.
    let tried = tries_one path bytes middle after then (writes ++ items) (first writes wrote) in (
      items ++ tried.0,
      begun_behind items ((path, bytes) ∷ []) tried.0 tried.1,
      subst after.wrote (append_assoc writes items tried.0) tried.2,
    )

-- files that are written behind others
pub writes_rest : (items others : List (List ℕ × List ℕ)) (before middle after : Disk) → WritesAll items before middle
    → WritesAll others middle after → WritesAll (items ++ others) before after
writes_rest items others before middle after first then =
    λ writes wrote. subst after.wrote (append_assoc writes items others) (then (writes ++ items) (first writes wrote))

pub tries_rest : (items others : List (List ℕ × List ℕ)) (before middle after : Disk) → WritesAll items before middle
    → TriesAll others middle after → TriesAll (items ++ others) before after
tries_rest items others before middle after first then = λ writes wrote.
    let tried = then (writes ++ items) (first writes wrote) in (
      items ++ tried.0,
      begun_behind items others tried.0 tried.1,
      subst after.wrote (append_assoc writes items tried.0) tried.2,
    )

-- what was written was tried
pub written_tried : (items : List (List ℕ × List ℕ)) (before after : Disk) → WritesAll items before after → TriesAll items before after
written_tried items before after h = λ writes wrote. (items, all_begun items, h writes wrote)

pub tries_later : (items : List (List ℕ × List ℕ)) (before middle after : Disk) → Stays before middle → TriesAll items middle after
    → TriesAll items before after
tries_later items before middle after stays h = λ writes wrote. h writes (stays.wrote writes wrote)

pub writes_later : (items : List (List ℕ × List ℕ)) (before middle after : Disk) → Stays before middle → WritesAll items middle after
    → WritesAll items before after
writes_later items before middle after stays h = λ writes wrote. h writes (stays.wrote writes wrote)

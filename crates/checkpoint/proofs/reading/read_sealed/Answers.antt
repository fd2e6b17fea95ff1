use Rattle.std.proofs.Common.{◌≡◌, ℕ, List, true, false, not, ◌||◌, cond, Ok, Err, inl, inr, refl, sym, subst, take, drop, ◌==◌, ne_eqb}
use Rattle.std.proofs.lemmas.List.{take_rest}
use Rattle.std.specs.Str.{bytes_eq}
use Rattle.checkpoint.specs.declared.fault.CheckpointFault.TheVariants.{Digest, Version}
use Rattle.checkpoint.specs.Checkpoint.{digest, magic}
use Rattle.checkpoint.specs.Reading.{content_at, number_at, sealed_at}
use Rattle.checkpoint.proofs.reading.read_sealed.Goals as goal

-- what is left to test and to read behind the version
behind_version : (body seal : List ℕ) (version : ℕ) (rest : List ℕ) → false ≡ not (bytes_eq (take 4 body) magic) → number_at 4 (drop 4 body) ≡ Ok (version, rest)
    → sealed_at body seal ≡ cond (not ((version == 1) || (version == 2))) (Err Version) (cond (not (bytes_eq seal (digest body))) (Err Digest) (content_at version rest))
unfolding sealed_at
behind_version body seal version rest opens read = rw (sym opens, read) refl

pub returns-then-ne : goal.returns-then-ne
unfolding magic sealed_at
returns-then-ne c = rw (sym c.if-ne.ensures) refl

pub returns-then-version-ne2 : goal.returns-then-version-ne2
unfolding magic
returns-then-version-ne2 c =
    let version = c.in_ok-version.version in
    let behind = behind_version c.args.body.now c.args.seal.now version c.in_ok-version.rest.now c.if-ne.ensures (rw take_rest at c.in_ok-version.ensures) in
    rw (behind, ne_eqb version 1 c.if-version-ne1.true, ne_eqb version 2 c.if-version-ne2.true) refl

pub returns-then-ne-2 : goal.returns-then-ne-2
unfolding magic
returns-then-ne-2 c =
    let version = c.in_ok-version.version in
    let behind = behind_version c.args.body.now c.args.seal.now version c.in_ok-version.rest.now c.if-ne.ensures (rw take_rest at c.in_ok-version.ensures) in
    let known : ((version == 1) || (version == 2)) ≡ true = elim c.else-version-ne1.either [ inl e ↦ rw e.1 refl | inr e ↦ rw e refl ] in
    let differs = subst (λ seal. true ≡ not (bytes_eq c.args.seal.now seal)) c.digest_of.ensures c.if-ne-2.ensures in
    rw (behind, known, sym differs) refl

pub returns : goal.returns
unfolding magic
returns c =
    let version = c.in_ok-version.version in
    let behind = behind_version c.args.body.now c.args.seal.now version c.in_ok-version.rest.now c.if-ne.ensures (rw take_rest at c.in_ok-version.ensures) in
    let known : ((version == 1) || (version == 2)) ≡ true = elim c.else-version-ne1.either [ inl e ↦ rw e.1 refl | inr e ↦ rw e refl ] in
    let same = subst (λ seal. false ≡ not (bytes_eq c.args.seal.now seal)) c.digest_of.ensures c.if-ne-2.ensures in
    rw (behind, known, sym same) c.read_content.ensures

-- What was read stands for what was handed in: by how much of an input decides.
use Prim.Native.Nat.{ℕ, ◌<◌, ◌≤◌}
use native.Mathlib.Omega.{arith}
use mathlib.Core.Path.{◌≡◌, sym, ap, subst, ◌∙◌}
use mathlib.Core.List.{List}
use lib.ListN.{length, take}
use lib.Dec.{ltb}
use mathlib.Core.Logic.{◌⊎◌, inl, inr}
use lib.Seq.{length-take-le, take_all, take-take}
use borrow.Author.Tests.{ltb-true, ltb-false}
use Rattle.logic.proofs.Bools.{split}
use Rattle.syntax.specs.Limits.{most_bytes}
use Rattle.io.specs.Counts.{IsPrefixLen}
use Rattle.meaning.specs.Lines.{placer, runner, trace_bytes}
use Rattle.demands.proofs.Cut.{placer_cut, runner_file_cut, runner_cut}
use Rattle.output.specs.Printed.{Prints, Read}

pub counted : {lines before after : List ℕ} {n : ℕ} → Prints lines before n after → IsPrefixLen n after
counted p = (p.within, p.part)

-- what was read of a file, in a buffer of more bytes than a file may have
module _ {handed buffer : List ℕ} {count : ℕ} (r : Read handed count buffer) (large : most_bytes < length buffer) where
  pub file_part : {before after : List ℕ} {n : ℕ} → Prints (placer (take count buffer)) before n after
      → Prints (placer handed) before n after
  file_part {before} {after} {n} p =
      subst (λ l. Prints l before n after)
      (ap placer (sym r.bytes) ∙ placer_cut (length buffer) large handed) p

  -- and a trace that is judged as what was handed in
  pub both_parts : (frames part : List ℕ) → ((file : List ℕ) → runner file part ≡ runner file frames)
      → {before after : List ℕ} {n : ℕ} → Prints (runner (take count buffer) part) before n after
      → Prints (runner handed frames) before n after
  both_parts frames part e {before} {after} {n} p =
      subst (λ l. Prints l before n after)
      (e (take count buffer) ∙ ap (λ f. runner f frames) (sym r.bytes)
      ∙ runner_file_cut (length buffer) large handed frames) p

-- a trace that a buffer has all of, since it is not full
pub short_whole : {frames buffer : List ℕ} {n : ℕ} → Read frames n buffer → n < length buffer → take n buffer ≡ frames
short_whole {frames} {buffer} {n} r h =
    let most = length buffer in
    let size : length (take most frames) ≡ n = ap length r.bytes ∙ length-take-le n buffer (omega arith) in
    split (ltb most (length frames))
    (λ x.
    let long = ltb-true most (length frames) x in
    let cut = length-take-le most frames (omega arith) in
    absurd (omega arith))
    (λ x. sym r.bytes ∙ take_all most frames (ltb-false most (length frames) x))

-- a trace of which a buffer has all, since it is not full, or as much as it is judged by
pub judged : {frames buffer : List ℕ} {n : ℕ} → Read frames n buffer → (n < length buffer) ⊎ (trace_bytes ≤ length buffer)
    → (file : List ℕ) → runner file (take n buffer) ≡ runner file frames
judged r (inl h) file = ap (runner file) (short_whole r h)
judged {frames} {buffer} r (inr h) file =
    let most = length buffer in
    ap (runner file) (sym r.bytes) ∙ sym (runner_cut file (take most frames))
    ∙ ap (runner file) (take-take trace_bytes most frames h) ∙ runner_cut file frames

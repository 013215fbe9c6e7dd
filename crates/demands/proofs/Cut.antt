-- How much of an input decides: of a file its first 8,193 bytes, of a trace its first 65,536.
use Prim.Native.Nat.{ℕ, ◌<◌}
use native.Mathlib.Omega.{arith}
use mathlib.Core.Path.{◌≡◌, refl, sym, ap, ◌∙◌}
use mathlib.Core.List.{List}
use lib.ListN.{length, take}
use lib.Dec.{ltb}
use lib.Seq.{length-take-le, take_all, take-take}
use borrow.Author.Tests.{ltb-true, ltb-false}
use Rattle.logic.proofs.Bools.{split}
use Rattle.syntax.specs.Limits.{most_bytes}
use Rattle.meaning.specs.Answer.{Verdict, accepted, refused}
use Rattle.meaning.specs.Decide.Check.{check}
use Rattle.meaning.specs.Lines.{placer, runner, trace_bytes}
use Rattle.meaning.proofs.Stages.{check_1}

pub check_cut : (n : ℕ) → most_bytes < n → (file : List ℕ) → check (take n file) ≡ check file
check_cut n h file =
    split (ltb n (length file))
    (λ l.
    let long = ltb-true n (length file) l in
    let size = length-take-le n file (omega arith) in
    check_1 (take n file) (omega arith) ∙ sym (check_1 file (omega arith)))
    (λ l. ap check (take_all n file (ltb-false n (length file) l)))

pub placer_cut : (n : ℕ) → most_bytes < n → (file : List ℕ) → placer (take n file) ≡ placer file
unfolding placer
placer_cut n h file = rw (check_cut n h file, placer)

pub runner_file_cut : (n : ℕ) → most_bytes < n → (file trace : List ℕ) → runner (take n file) trace ≡ runner file trace
unfolding runner
runner_file_cut n h file trace = rw (check_cut n h file, runner)

pub runner_cut : (file trace : List ℕ) → runner file (take trace_bytes trace) ≡ runner file trace
unfolding runner
runner_cut file trace = go (check file) refl
  where
    go : (v : Verdict) → check file ≡ v → runner file (take trace_bytes trace) ≡ runner file trace
    go (accepted m) e = rw (e, runner, take-take trace_bytes trace_bytes trace (omega arith))
    go (refused a) e = rw (e, runner)

-- `tokens::scan_into` meets its contract. The loop's invariant, `Held`: the numbers of the tokens so far are in the
-- slices, behind them these are as they were lent, and those tokens in front of the tokens of what is left are the
-- file's. Each token has a byte of its own, so that 8,192 of them end the file.
use Prim.Native.Nat.{ℕ, ◌<◌}
use mathlib.Core.Path.{◌≡◌}
use mathlib.Core.List.{List}
use native.Mathlib.Omega.{arith}
use lib.ListN.{length, length-set}
use Rattle.scanner.specs.Step.{step_at}
use Rattle.scanner.specs.declared.Step.{Step}
use Rattle.tokens.proofs.Tokens.{Taken, held_none, held_one, taken, ended_bad, ended_all, ended_behind}
use Rattle.tokens.proofs.Tokens.{tokens_end, scans_all, scans_bad, scans_long}
use Rattle.tokens.proofs.scan_into.Goals as goal

-- a step that was made found a token
token_taken : (file : List ℕ) (at : ℕ) {s : Step} → s ≡ step_at file at → (s.next.at ≡ s.start → ⊥)
    → Taken file at (step_at file at)
token_taken file at e n = taken file at (rw e at n)

pub returns-then-file-gt-FILE_BYTES : goal.returns-then-file-gt-FILE_BYTES
returns-then-file-gt-FILE_BYTES c = scans_long _ _ _ _ c.if-file-gt-FILE_BYTES.true

pub loop-n-init : goal.loop-n-init
loop-n-init c =
    let a = c.args in
    let p = c.requires in (
      rw c.new-cursor.ensures (held_none a.file.now a.kinds.now a.values.now a.places.now),
      p.0,
      p.1,
      p.2,
    )

pub returns-then-start-file : goal.returns-then-start-file
returns-then-start-file c =
    let file = c.args.file.now in
    let e = c.read_token-token.ensures in
    rw e
    (scans_bad file _ _ _ _ _ _ _ _ c.loop-n.invariant.0 c.if-file-gt-FILE_BYTES.false _
    (ended_behind file c.loop-n.cursor.at)
    (ended_bad file c.loop-n.cursor.at (rw e at c.if-next-start.true) (rw e at c.if-start-file.true)))

pub returns-then-next-start : goal.returns-then-next-start
returns-then-next-start c =
    let file = c.args.file.now in
    let e = c.read_token-token.ensures in
    scans_all file _ _ _ _ _ _ _ _ c.loop-n.invariant.0 c.if-file-gt-FILE_BYTES.false
    (ended_all file c.loop-n.cursor.at (rw e at c.if-next-start.true) (rw e at c.if-start-file.false))

pub code_of-code-requires : goal.code_of-code-requires
code_of-code-requires c = rw c.read_token-token.ensures (token_taken c.args.file.now c.loop-n.cursor.at c.read_token-token.ensures c.if-next-start.false).words

pub overflow_cast-places : goal.overflow_cast-places
overflow_cast-places c =
    let step = c.read_token-token in
    let file = c.args.file.now in
    let inside : step.result.start < length file = rw step.ensures (token_taken c.args.file.now c.loop-n.cursor.at c.read_token-token.ensures c.if-next-start.false).inside in
    omega arith

pub loop-n-preserved : goal.loop-n-preserved
loop-n-preserved c =
    let file = c.args.file.now in (
      rw (c.code_of-code.ensures, c.read_token-token.ensures)
          (held_one file _ _ _ _ _ _ _ _ c.loop-n.invariant.0 _ (token_taken c.args.file.now c.loop-n.cursor.at c.read_token-token.ensures c.if-next-start.false) (omega arith) (omega arith)
          (omega arith)),
      simp length-set c.loop-n.invariant.1,
      simp length-set c.loop-n.invariant.2,
      simp length-set c.loop-n.invariant.3,
    )

pub returns : goal.returns
returns c =
    let file = c.args.file.now in
    let all : c.loop-n.n ≡ 8192 = omega arith in
    rw all at
    (scans_all file _ _ _ _ _ _ _ _ c.loop-n.invariant.0 c.if-file-gt-FILE_BYTES.false
    (tokens_end file c.loop-n.cursor.at (omega (arith, c.loop-n.invariant.0.behind))))

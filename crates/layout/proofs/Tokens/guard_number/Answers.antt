-- `layout::Tokens::guard_number` meets its contract. The loop's invariant: the guard's place is past those that were compared.
use Prim.Native.Nat.{◌%◌, ◌<◌}
use native.Mathlib.Omega.{arith}
use mathlib.Core.Path.{◌≡◌, sym, ap, ◌∙◌}
use mathlib.Core.List.{List}
use lib.ListN.{length, get_or}
use Rattle.syntax.specs.Token.{Token, lexemes}
use Rattle.syntax.specs.Tree.{Cond}
use Rattle.meaning.specs.Model.{same_guard}
use Rattle.syntax.specs.Held.Kind.{Words}
use Rattle.layout.specs.Promises.{GuardAt, Flagged, no_flagged, found, Holds}
use Rattle.layout.proofs.Regions.{number_here, number_later, number_over, first_stands, first_small}
use Rattle.layout.proofs.Tokens.guard_number.Goals as goal
use Rattle.layout.proofs.Tokens.guard_number.Goals.{After-same_guard}

pub loop-g-init : goal.loop-g-init
loop-g-init c = λ ts done d w h at-d. omega arith

pub bounds-layout-g : goal.bounds-layout-g
bounds-layout-g c =
    let room = c.requires in omega (arith, room.few_guards, room.few_regions)

-- in a turn the guard is compared with that of number g
compared :
    (q : After-same_guard)
    → (let a = q.args in
    let l = a.layout in
    let g = q.loop-g.g in
    (ts : List Token) (done : List Flagged) (d : Cond)
    → Words a.self.file.now ts a.self.kinds.now a.self.values.now a.self.places.now → Holds (lexemes ts) done l
    → GuardAt (lexemes ts) a.at d
    → (g < length (found done))
    × (q.same_guard.result ≡ same_guard d (get_or done (get_or l.firsts g 0) no_flagged).region.guard))
compared q ts done d w h at-d =
    let s = q in
    let l = s.args.layout in
    let g = q.loop-g.g in
    let low : g < length (found done) =
    omega (arith, q.loop-g-test.true, h.guard_count) in
    let first : q.from-first.result % 16 ≡ get_or l.firsts g 0 =
    ap (λ n. n % 16) q.from-first.ensures ∙ first_small h d g low s.requires in
    let other : q.from-other.result ≡ get_or l.guards_at (get_or l.firsts g 0) 0 =
    q.from-other.ensures ∙ ap (λ n. get_or l.guards_at n 0) first in
    let there : GuardAt (lexemes ts) q.from-other.result
    (get_or done (get_or l.firsts g 0) no_flagged).region.guard =
    rw other (first_stands h d g low) in
    (low, q.same_guard.ensures ts d _ w at-d there)

pub returns-then-same_guard : goal.returns-then-same_guard
returns-then-same_guard c = (
  omega arith,
  λ ts done d w h at-d.
      let q = c in
      let e = compared (goal.at.returns-then-same_guard c).After-same_guard ts done d w h at-d in
      number_here h d q.loop-g.g e.0 (sym e.1 ∙ c.if-same_guard.true) ∙ q.loop-g.invariant ts done d w h at-d,
)

pub loop-g-preserved : goal.loop-g-preserved
loop-g-preserved c =
    λ ts done d w h at-d.
    let q = c in
    let e = compared (goal.at.loop-g-preserved c).After-same_guard ts done d w h at-d in
    number_later h d q.loop-g.g e.0 (sym e.1 ∙ c.if-same_guard.false) ∙ q.loop-g.invariant ts done d w h at-d

pub returns : goal.returns
returns c = (
  omega arith,
  λ ts done d w h at-d.
      let all : c.args.layout.guards ≡ c.loop-g.g = omega arith in
      rw all (number_over h d c.loop-g.g (omega (arith, h.guard_count, c.loop-g-test.false))
      ∙ c.loop-g.invariant ts done d w h at-d),
)

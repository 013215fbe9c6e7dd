-- `layout::Tokens::add_region` meets its contract: the guard and the body stand behind `waituntil (` and `) {`, and the layout
-- holds one region more, with a new guard or one that it has.
use Prim.Native.Nat.{◌+◌, ◌%◌, ◌≤◌}
use native.Mathlib.Omega.{arith}
use mathlib.Core.Path.{◌≡◌, ap, ◌∙◌}
use mathlib.Core.Logic.{inl, inr}
use mathlib.Core.List.{map}
use lib.ListN.{length, drop}
use Rattle.syntax.specs.Token.{lexemes}
use Rattle.syntax.specs.Decide.Lexeme.{mark_number}
use Rattle.layout.specs.Closing.{close_from}
use Prim.Native.Nat.{ℕ, ◌<◌}
use mathlib.Core.List.{List}
use Rattle.layout.specs.Places.{to_guard, to_body, past}
use Rattle.layout.specs.Promises.{flag_at}
use Rattle.syntax.specs.Held.Kind.{kind_of}
use Rattle.layout.proofs.Closes.{close_within}
use Rattle.layout.proofs.Closes.{open_bracket, shut_bracket, open_brace, shut_brace, brace_end}
use Rattle.layout.proofs.Same.{lexemes_length}
use Rattle.layout.proofs.Regions.{Numbered, numbered_same, numbered_room, numbered_holds}
use Rattle.layout.proofs.Spelled.{body_of, next_of, spelled, flag_behind}
use Rattle.layout.proofs.Tokens.add_region.Goals as goal
use Rattle.layout.proofs.Tokens.add_region.Goals.{After-closing-next, Joined-number-layout}
use Rattle.layout.proofs.Tokens.add_region.Goals.{then-number-layout, else-number-layout}

-- the guard's closing bracket
bracket : (ks : List ℕ) {at r : ℕ} → r ≡ at + to_guard + close_from 4 5 0 (drop (at + to_guard) ks) → at < length ks
    → (r ≤ length ks + 1) × (at + to_guard ≤ r)
unfolding kind_of mark_number
bracket ks {at = at} e low =
    let w = close_within open_bracket shut_bracket (at + to_guard) ks (length ks + 1) (omega arith) (omega arith) in
    (omega (arith, e, w), omega (arith, e))

-- the body's closing brace
brace : (q : After-closing-next)
    → (q.closing-next.result ≤ length q.args.self.kinds.now + 3)
    × (q.args.spot.at + 4 ≤ q.closing-next.result)
    × (q.closing-body_at.result + to_body ≡ body_of
    q.args.self.kinds.now
    q.args.spot.at)
    × (q.closing-next.result + past ≡ next_of q.args.self.kinds.now
    q.args.spot.at)
unfolding kind_of mark_number
brace q =
    let a = q.args in
    let ks = a.self.kinds.now in
    let b = bracket ks q.closing-body_at.ensures q.requires.0 in
    let e = q.closing-next.ensures in
    let body : q.closing-body_at.result + to_body ≡ body_of ks a.spot.at =
    ap (λ n. n + to_body) q.closing-body_at.ensures in
    let w = close_within open_brace shut_brace (q.closing-body_at.result + to_body) ks (length ks + 3)
    (omega (arith, b.0))
    (omega arith) in (
      omega (arith, e, w),
      omega (arith, e, b.1),
      body,
      ap (λ n. n + past) (e ∙ ap (λ n. n + brace_end (drop n ks)) body),
    )

-- a guard's number is new or known
numbered_as : (q : Joined-number-layout) → Numbered
    q.args.spot.layout
    q.guard_number-number.result q.if-number-layout.numbered
numbered_as q = elim q.if-number-layout.branch [
  | then-number-layout w ↦ inl (w.if-number-layout.true, w.numbered-is ∙ w.with_guard-numbered.ensures)
  | else-number-layout w ↦ inr (w.if-number-layout.false, w.numbered-is)
]

pub overflow_add-body_at : goal.overflow_add-body_at
overflow_add-body_at c = let b = bracket c.args.self.kinds.now c.closing-body_at.ensures c.requires.0 in omega (arith, b.0)

pub overflow_add-next : goal.overflow_add-next
overflow_add-next c = let b = brace (goal.at.overflow_add-next c).After-closing-next in omega (arith, b.0)

pub with_region-requires : goal.with_region-requires
with_region-requires c =
    let s = c in
    let e = numbered_same s.args.spot.layout _ _ (numbered_as (goal.at.with_region-requires c).Joined-number-layout) in
    omega (arith, e.0, s.requires.2)

pub returns : goal.returns
returns c =
    let s = c in
    let a = s.args in
    let ks = a.self.kinds.now in
    let j = c in
    let b = brace (goal.at.returns c).After-closing-next in
    let e = c.with_region.ensures in
    let same = numbered_same a.spot.layout _ _ (numbered_as (goal.at.returns c).Joined-number-layout) in (
      record {
        room = rw e (numbered_room a.spot.layout _ _ (numbered_as (goal.at.returns c).Joined-number-layout) s.requires.1 s.requires.2 _ _ _ _ _);
        keep_kept = rw e same.1;
        forth = omega (arith, b.1);
        within = omega (arith, b.0);
      },
      omega (arith, b.1),
      rw e (ap (λ n. n + 1) same.0),
      λ ts done q us w few h at-q.
          let there = spelled w a.spot.at q us at-q in
          let long = lexemes_length ts in
          let guard : c.held.result ≡ a.spot.at + to_guard =
          c.held.ensures ∙ omega (arith, there.guard_low) in
          let body : c.held-2.result ≡ body_of ks a.spot.at =
          c.held-2.ensures ∙ ap (λ n. n % 65536) b.2 ∙ omega (arith, there.body_low) in
          let behind : drop (c.closing-next.result + past)
          (lexemes ts) ≡ us = rw b.3 there.behind in
          let flags = c.flag.ensures ∙ flag_behind w _ us behind in
          record {
            holds = rw (e, guard, body, flags)
                (numbered_holds a.spot.layout _ _ (numbered_as (goal.at.returns c).Joined-number-layout) (lexemes ts) done
                record { region = q; begins = a.begins; goes_on = flag_at (map kind_of us) 0 } s.requires.1 h
                s.requires.2 _ _ there.stands
                (j.guard_number-number.ensures.1 ts done q.guard w h
                (there.stands.behind_guard, there.stands.guard_stands))
                j.guard_number-number.ensures.0);
            behind = behind;
          },
    )

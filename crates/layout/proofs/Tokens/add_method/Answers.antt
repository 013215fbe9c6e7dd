-- `layout::Tokens::add_method` meets its contract. The loop's invariant: the regions held and those ahead make up the method's.
use native.Mathlib.Omega.{arith}
use mathlib.Core.Path.{◌≡◌, refl, sym, ◌∙◌}
use lib.ListN.{get_or}
use Rattle.syntax.specs.Token.{lexemes, key, k_waituntil}
use Rattle.syntax.specs.Decide.Lexeme.{keyword_number}
use Rattle.syntax.specs.Held.Kind.{kind_of, no_kind}
use Rattle.layout.proofs.Methods.{kind_within, ahead_start, ahead_turn, ahead_full}
use Rattle.layout.proofs.Methods.{ahead_over}
use Rattle.layout.proofs.Tokens.add_method.Goals as goal
use Rattle.layout.proofs.Tokens.add_method.Goals.{In-loop-spot}

pub loop-spot-init : goal.loop-spot-init
loop-spot-init c =
    let s = c in (
      λ ts done qs us w small h few stands. ahead_start (lexemes ts) done qs us s.args.from.layout
          s.args.from.at h few stands,
      record { room = s.requires.1; keep_kept = refl; forth = omega arith; within = s.requires.0 },
    )

-- in a turn `waituntil` stands there
waits : (q : In-loop-spot)
    → get_or q.args.self.kinds.now q.loop-spot.spot.at
    no_kind ≡ kind_of (key k_waituntil)
unfolding kind_of keyword_number
waits q = sym q.kind_at.ensures ∙ q.loop-spot-test.true

pub returns-then-spot-ge-REGIONS : goal.returns-then-spot-ge-REGIONS
returns-then-spot-ge-REGIONS c =
    let q = c in
    let a = q.args in (
      q.loop-spot.invariant.1,
      λ ts done qs us w small h few stands.
          ahead_full w done qs us q.loop-spot.spot.layout q.loop-spot.spot.at q.loop-spot.begins
          (q.loop-spot.invariant.0 ts done qs us w small h few stands)
          (waits (goal.at.returns-then-spot-ge-REGIONS c).In-loop-spot) c.if-spot-ge-REGIONS.true,
    )

pub add_region-spot-requires : goal.add_region-spot-requires
add_region-spot-requires c =
    let q = c in
    let s = q in (
      kind_within s.args.self.kinds.now q.loop-spot.spot.at (key k_waituntil) (waits (goal.at.add_region-spot-requires c).In-loop-spot),
      q.loop-spot.invariant.1.room,
      omega (arith, c.if-spot-ge-REGIONS.false),
    )

pub loop-spot-smaller : goal.loop-spot-smaller
loop-spot-smaller c =
    let q = c in
    let low = kind_within q.args.self.kinds.now q.loop-spot.spot.at (key k_waituntil)
    (waits (goal.at.loop-spot-smaller c).In-loop-spot) in
    omega (arith, low, c.add_region-spot.ensures.1)

pub loop-spot-preserved : goal.loop-spot-preserved
loop-spot-preserved c =
    let q = c in
    let a = q.args in
    let r = c.add_region-spot in
    let g = q.loop-spot.invariant.1 in (
      λ ts done qs us w small h few stands.
          ahead_turn w done qs us q.loop-spot.spot.layout q.loop-spot.spot.at q.loop-spot.begins r.result
          (q.loop-spot.invariant.0 ts done qs us w small h few stands) small (waits (goal.at.loop-spot-preserved c).In-loop-spot)
          r.ensures.3,
      record {
        room = r.ensures.0.room;
        keep_kept = r.ensures.0.keep_kept ∙ g.keep_kept;
        forth = omega (arith, g.forth, r.ensures.0.forth);
        within = r.ensures.0.within;
      },
    )

pub returns : goal.returns
unfolding kind_of keyword_number
returns c =
    let q = c in
    let a = q.args in (
      q.loop-spot.invariant.1,
      λ ts done qs us w small h few stands.
          ahead_over w done qs us q.loop-spot.spot.layout q.loop-spot.spot.at q.loop-spot.begins
          (q.loop-spot.invariant.0 ts done qs us w small h few stands)
          (λ e. c.loop-spot-test.false (c.kind_at.ensures ∙ e)),
    )

-- The sets of a file, each gathered where its text stands: what they say of the file.
use Prim.Native.Nat.{ℕ, ◌≤◌, ◌<◌}
use native.Mathlib.Omega.{arith}
use mathlib.Core.Path.{◌≡◌, refl, ◌∙◌}
use mathlib.Core.Bool.{Bool, true, false, and-false}
use mathlib.Core.List.{List, ◌∷◌, ◌++◌}
use lib.ListN.{length, drop, get_or}
use lib.Dec.{ltb}
use borrow.Author.Tests.{lt-ltb, le-ltb}
use Rattle.logic.proofs.Lists.{get_d_below}
use Rattle.syntax.specs.Token.{Lexeme, mark, rbrace, rparen, semicolon}
use Rattle.syntax.specs.Decide.Lexeme.{mark_number}
use Rattle.syntax.specs.Held.Kind.{kind_of, no_kind}
use Rattle.syntax.specs.Tree.{Monitor, Cond, spell_cond, spell_block}
use Rattle.meaning.specs.Model.{vars, regions, guards, region, no_guard}
use Rattle.meaning.specs.Decide.Choice.{no_try, try_at}
use Rattle.layout.specs.declared.Layout.{Layout}
use Rattle.layout.specs.declared.Tries.{Tries}
use Rattle.layout.proofs.Closes.{open_bracket, shut_bracket, open_brace, shut_brace, semicolon_kind}
use Rattle.layout.proofs.Trees.{brackets_balanced, semicolons_balanced, braces_balanced}
use Rattle.mentions.specs.Gathered.{Gathers, guard_at, Touches}
use Rattle.evaluator.specs.Coding.{Covers}
use Rattle.mentions.specs.Mentioned.{Resolved, Mentioned}
use Rattle.mentions.specs.declared.Mentions.{Mentions}
use Rattle.mentions.proofs.GuardsAt.{few_guards, guards_stand}
use Rattle.mentions.proofs.Touches.{HasSlots, has_slots, covers, touches}

module _ {m : Monitor} {ls : List Lexeme} {kinds values : List ℕ} {n : ℕ} {l : Layout} {t : Tries}
    (known : Resolved m ls kinds values n l t) where
  -- sets have the slots of so many texts
  abbrev pub InTexts : Bool → ℕ → ℕ → (ℕ → ℕ) → ℕ → List ℕ → Type 0
  InTexts left opener closer at count sets =
      (i : ℕ) → i < count → i < 16 → Gathers kinds left values opener closer (at i) (get_or sets i 0)

  -- a condition that ends at a semicolon
  condition_covers : (c : Cond) (at set : ℕ) (us : List Lexeme) → drop at ls ≡ spell_cond c ++ (mark semicolon ∷ us)
      → Gathers kinds false values no_kind semicolon_kind at set → Covers (vars m) (spell_cond c) set
  unfolding kind_of mark_number
  condition_covers c at set us stands g =
      covers (vars m) known.few_vars (spell_cond c) set
      (has_slots known.codes false no_kind semicolon_kind at set (spell_cond c) us (mark semicolon)
      (semicolons_balanced c) (λ e. omega arith) refl (λ e. omega arith) stands g)

  try_covers : (i set : ℕ) → i < length m.tries
      → Gathers kinds false values no_kind semicolon_kind (get_or t.ats i 0) set
      → Covers (vars m) (spell_cond (get_or m.tries i no_guard)) set
  unfolding try_at
  try_covers i set h g =
      let (us, e) = known.tries_laid.stand i h in
      rw (get_d_below m.tries i no_try no_guard h) at (condition_covers _ (get_or t.ats i 0) set us e g)

  body_slots : (left : Bool) (sets : List ℕ) → InTexts left open_brace shut_brace (λ q. get_or l.bodies_at q 0) l.regions sets → (q : ℕ) → q < length (regions m)
      → HasSlots left (vars m) (spell_block (region m q).body) (get_or sets q 0)
  unfolding kind_of mark_number
  body_slots left sets g q h =
      let stands = known.laid.regions_stand q h in
      has_slots known.codes left open_brace shut_brace (get_or l.bodies_at q 0) (get_or sets q 0)
      (spell_block (region m q).body) stands.behind_body (mark rbrace) (braces_balanced (region m q).body)
      (λ e. omega arith) refl (λ e. omega arith) stands.body_stands
      (g q (omega (arith, known.laid.region_count)) (omega (arith, known.few_regions)))

  guard_few : (g : ℕ) → g < length (guards m) → g < 16
  guard_few g h = omega (arith, few_guards known.laid known.few_regions)

  guard_slots : (sets : List ℕ) → InTexts false open_bracket shut_bracket (guard_at l) l.guards sets → (g : ℕ) → g < length (guards m)
      → HasSlots false (vars m) (spell_cond (get_or (guards m) g no_guard)) (get_or sets g 0)
  unfolding kind_of mark_number
  guard_slots sets gathers g h =
      let (us, e) = guards_stand known.laid known.few_regions g h in
      has_slots known.codes false open_bracket shut_bracket (guard_at l g) (get_or sets g 0)
      (spell_cond (get_or (guards m) g no_guard)) us (mark rparen) (brackets_balanced (get_or (guards m) g no_guard))
      (λ e. omega arith) refl (λ e. omega arith) e
      (gathers g (omega (arith, known.laid.guard_count)) (guard_few g h))

  -- all sets of the file
  module _ (r : Mentions) (assigned : List ℕ)
      (keep : Gathers kinds false values no_kind semicolon_kind l.keep r.keep)
      (tries : InTexts false no_kind semicolon_kind (λ i. get_or t.ats i 0) t.count r.tries)
      (named : InTexts false open_bracket shut_bracket (guard_at l) l.guards r.guards)
      (bodies : InTexts false open_brace shut_brace (λ q. get_or l.bodies_at q 0) l.regions r.bodies)
      (lefts : InTexts true open_brace shut_brace (λ q. get_or l.bodies_at q 0) l.regions assigned)
      (meeting : (q : ℕ) → q < 16
      → Touches l.guards n r.guards (get_or assigned q 0) (get_or r.touched q 0)) where
    pub mentioned : Mentioned m r
    mentioned = record {
      keep = condition_covers m.keep l.keep r.keep known.laid.after_keep known.laid.keep_stands keep;
      guards = λ g h. covers (vars m) known.few_vars _ _ (guard_slots r.guards named g h);
      tries = λ i h. try_covers i (get_or r.tries i 0) h
          (tries i (omega (arith, known.tries_laid.count)) (omega (arith, known.few_tries)));
      bodies = λ q h. covers (vars m) known.few_vars _ _ (body_slots false r.bodies bodies q h);
      touched = record {
        members = λ q g h below.
            let low : g < l.guards = omega (arith, known.laid.guard_count) in
            (meeting q (omega (arith, known.few_regions))).members g
            ∙ rw (lt-ltb g 16 (guard_few g below), lt-ltb g l.guards low)
            (touches m known.few_vars n known.counted q g (get_or r.guards g 0) (get_or assigned q 0)
            (guard_slots r.guards named g below) (body_slots true assigned lefts q h));
        none_behind = λ q g h past.
            let none_there : l.guards ≤ g = omega (arith, known.laid.guard_count) in
            (meeting q (omega (arith, known.few_regions))).members g
            ∙ rw (le-ltb g l.guards none_there) (and-false (ltb g 16));
      };
    }

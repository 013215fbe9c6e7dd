-- Keep, the guards, the tries and the bodies of a file stand where its layout says, and their names are in their sets.
use Prim.Native.Nat.{ℕ, ◌≤◌, ◌<◌}
use native.Mathlib.Omega.{arith}
use mathlib.Core.Path.{◌≡◌, refl, ap, ◌∙◌}
use mathlib.Core.Logic.{inl, inr}
use mathlib.Core.List.{List, ◌∷◌, ◌++◌}
use lib.ListN.{length, drop, get_or}
use Rattle.syntax.specs.Token.{Lexeme, mark, semicolon, rparen}
use Rattle.syntax.specs.Decide.Lexeme.{mark_number}
use Rattle.syntax.specs.Held.Kind.{kind_of}
use Rattle.syntax.specs.Tree.{Cond, Monitor, spell_cond}
use Rattle.logic.proofs.Lists.{get_d_below}
use Rattle.meaning.specs.Decide.Choice.{no_try, try_at}
use Rattle.meaning.specs.Model.{vars, guards, no_guard, holds}
use Rattle.evaluator.specs.Coding.{EndsCond}
use Rattle.variables.specs.declared.Bounds.{Bounds}
use Rattle.layout.specs.declared.Layout.{Layout}
use Rattle.layout.specs.declared.Tries.{Tries}
use Rattle.mentions.specs.Mentioned.{Mentioned}
use Rattle.mentions.specs.Gathered.{guard_at}
use Rattle.mentions.specs.declared.Mentions.{Mentions}
use Rattle.mentions.proofs.GuardsAt.{few_guards, guards_stand}
use Rattle.states.specs.Rows.{TruthSets, ConditionsAt, BodiesAt, HoldsAll}
use Rattle.truths.specs.Carried.{Condition, Conditions}
use Rattle.truths.specs.declared.Texts.{Texts}
use Rattle.rows.specs.Filling.{Filling, GuardTexts, TryTexts}

-- what ends a condition

ends_kept : (us : List Lexeme) → EndsCond (mark semicolon ∷ us)
unfolding EndsCond kind_of mark_number
ends_kept us = (us, mark semicolon, refl, inr refl)

ends_guard : (us : List Lexeme) → EndsCond (mark rparen ∷ us)
unfolding EndsCond kind_of mark_number
ends_guard us = (us, mark rparen, refl, inl refl)

module _ {m : Monitor} {ls : List Lexeme} {kinds values : List ℕ} {b : Bounds} {l : Layout} {t : Tries} {n : Mentions}
    (f : Filling m ls kinds values b l t) (named : Mentioned m n) where
  pub keeping : Condition (vars m) m.keep kinds values b l.keep n.keep
  keeping =
      record {
        ls = ls;
        us = mark semicolon ∷ f.laid.after_keep;
        codes = f.codes;
        bounded = f.bounded;
        few = f.few;
        spelled = f.laid.keep_stands;
        ends = ends_kept f.laid.after_keep;
        covers = named.keep;
      }

  few : length (guards m) ≤ 16
  few = few_guards f.laid f.few_regions

  guards_of : (ats : List ℕ) → ((g : ℕ) → g < 16 → get_or ats g 0 ≡ guard_at l g) → ConditionsAt (guards m) ls ats
  unfolding ConditionsAt
  guards_of ats e g h =
      let (us, stands) = guards_stand f.laid f.few_regions g h in
      (mark rparen ∷ us, ap (λ (k : ℕ). drop k ls) (e g (omega (arith, few))) ∙ stands, ends_guard us)

  pub guarding : {r : Texts} → GuardTexts l n r
      → Conditions (vars m) (guards m) kinds values b r.ats r.named r.count
  guarding {r} g =
      record {
        ls = ls;
        codes = f.codes;
        bounded = f.bounded;
        few = f.few;
        counted = g.counted ∙ f.laid.guard_count;
        few_conditions = omega (arith, few, g.counted, f.laid.guard_count);
        places = guards_of r.ats g.places;
        covers = λ k h. rw g.named (named.guards k h);
      }

  -- the tries begin where the layout says
  tries_at : ConditionsAt m.tries ls t.ats
  unfolding ConditionsAt try_at
  tries_at i h =
      let (us, e) = f.tries_laid.stand i h in (
        mark semicolon ∷ us,
        e ∙ ap (λ (c : Cond). spell_cond c ++ (mark semicolon ∷ us)) (get_d_below m.tries i no_try no_guard h),
        ends_kept us,
      )

  pub trying : {r : Texts} → TryTexts t n r
      → Conditions (vars m) m.tries kinds values b r.ats r.named r.count
  trying {r} g =
      record {
        ls = ls;
        codes = f.codes;
        bounded = f.bounded;
        few = f.few;
        counted = g.counted ∙ f.tries_laid.count;
        few_conditions = omega (arith, g.counted, f.tries_laid.count, f.few_tries);
        places = rw g.places tries_at;
        covers = λ k h. rw g.named (named.tries k h);
      }

  pub bodies_of : BodiesAt m ls l.bodies_at
  unfolding BodiesAt
  bodies_of r h = let q = f.laid.regions_stand r h in (q.behind_body, q.body_stands)

-- the guards that hold, as a set of all of them
pub holds_of : (m : Monitor) (rows : List ℕ) → TruthSets (vars m) (guards m) rows → HoldsAll m rows
unfolding TruthSets HoldsAll holds
holds_of m rows t = t

-- Where the guards stand, by their numbers: each at the guard of the first region that has it.
use Prim.Native.Nat.{ℕ, ◌%◌, ◌≤◌, ◌<◌}
use native.Mathlib.Omega.{arith}
use mathlib.Core.Path.{◌≡◌, sym, ap, ◌∙◌}
use mathlib.Core.List.{List, [], ◌∷◌, ◌++◌}
use lib.ListN.{length, drop, get_or}
use Rattle.syntax.specs.Token.{Lexeme, mark, rparen}
use Rattle.syntax.specs.Tree.{Monitor, spell_cond}
use Rattle.meaning.specs.Model.{regions, guards, region, no_guard}
use Rattle.meaning.proofs.ModelLaws.{guard_spells}
use Rattle.meaning.proofs.Sizes.{guards_few}
use Rattle.layout.specs.Laid.{Laid}
use Rattle.layout.specs.declared.Layout.{Layout}
use Rattle.mentions.specs.Gathered.{guard_at}

module _ {m : Monitor} {ls : List Lexeme} {l : Layout} (laid : Laid m ls l) (few : length (regions m) ≤ 16) where
  pub few_guards : length (guards m) ≤ 16
  unfolding guards
  few_guards = omega (arith, guards_few [] (regions m))

  pub guards_stand : (g : ℕ) → g < length (guards m)
      → (us : List Lexeme) × (drop (guard_at l g) ls ≡ spell_cond (get_or (guards m) g no_guard) ++ (mark rparen ∷ us))
  guards_stand g h =
      let r = get_or l.firsts g 0 in
      let low = laid.first_below g h in
      let stands = laid.regions_stand r low in
      let same : r % 16 ≡ r = omega arith in
      let spells : spell_cond (region m r).guard ≡ spell_cond (get_or (guards m) g no_guard) =
      sym (guard_spells m r low) ∙ ap (λ (k : ℕ). spell_cond (get_or (guards m) k no_guard)) (laid.first_has g h) in (
        stands.behind_guard,
        ap (λ (k : ℕ). drop (get_or l.guards_at k 0) ls) same ∙ stands.guard_stands
            ∙ ap (λ (cs : List Lexeme). cs ++ (mark rparen ∷ stands.behind_guard)) spells,
      )

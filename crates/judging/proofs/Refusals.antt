-- What the answers of the passes, of the reader and of the variables' reader say of a file's check: refusals 3 to 9 and 15,
-- and what is known where they do not arise.
use Prim.Native.Nat.{ℕ}
use native.Mathlib.Omega.{arith}
use mathlib.Core.Path.{◌≡◌, refl, sym, ap, ◌∙◌}
use mathlib.Core.Bool.{true, false}
use mathlib.Core.List.{List, [], ◌∷◌, map}
use mathlib.Core.Option.{Option, none, some}
use lib.ListN.{length, drop, get_or, length-map}
use Rattle.syntax.specs.Token.{number, key, k_var, k_keep, Token, lexemes}
use Rattle.syntax.specs.Held.Kind.{kind_of, Words}
use Rattle.syntax.specs.Tree.{Monitor, all, spell}
use Rattle.syntax.specs.Decide.Reading.{got, read}
use Rattle.syntax.proofs.Grammar.{read_spells, spelled_read}
use Rattle.meaning.specs.State.{starts}
use Rattle.meaning.specs.Kept.{kept_at}
use Rattle.meaning.specs.Answer.{answer, refused, accepted}
use Rattle.meaning.specs.Decide.Check.{crowded, past_limit, misnamed, ill_ranged, unvalued, places_of, broken}
use Rattle.meaning.specs.Decide.Check.{check}
use Rattle.meaning.proofs.RangeLaws.{ill_ranged_good}
use Rattle.meaning.specs.Held.{behind_keep}
use Rattle.logic.proofs.Bools.{different}
use Rattle.meaning.proofs.Stages.{check_3, check_4, check_5, check_6, check_7, check_15, check_8}
use Rattle.meaning.proofs.Stages.{check_9, check_0}
use Rattle.grammar.specs.Reads.{IsRead}
use Rattle.grammar.specs.declared.Stuck.{Stuck}
use Rattle.passes.specs.Pass.{found_of}
use Rattle.std.specs.Prelude.{Some, None, Ok, Err}
use Rattle.variables.specs.Bounded.{Ranged}
use Rattle.variables.specs.Places.{first_var}
use Rattle.variables.specs.declared.Declared.{Declared}
use Rattle.variables.specs.declared.BadRange.{BadRange}
use Rattle.layout.proofs.Same.{lexemes_length}
use Rattle.judging.proofs.TokenSlices.{lexemes_map}
use Rattle.judging.proofs.TokensStand.{keep_byte, ill_ranged_byte, stuck_place}

-- a pass's answer
pub found_at : (o : Option ℕ) (k : ℕ) → Some k ≡ found_of o → o ≡ some k
unfolding found_of
found_at none k e = different (cc)
found_at (some j) k e = cc

pub found_nothing : (o : Option ℕ) → None ≡ found_of o → o ≡ none
unfolding found_of
found_nothing none e = refl
found_nothing (some j) e = different (cc)

module _ {file : List ℕ} {ts : List Token} {kinds values places : List ℕ} (w : Words file ts kinds values places) where
  pub kinds_of : map kind_of (lexemes ts) ≡ kinds
  kinds_of = lexemes_map kind_of ts ∙ sym w.by_kind

  pub places_counted : length places ≡ length ts
  places_counted = rw w.by_place (length-map ts (λ t. t.at))

  -- 3
  pub says_3 : {k : ℕ} → crowded 0 0 0 ts ≡ some k → check file ≡ refused (answer 3 k 0)
  says_3 = check_3 file w.short w.cut

  module _ (room : crowded 0 0 0 ts ≡ none) where
    -- 4: "byte of the first token that cannot continue", or the file's length
    pub says_4 : (e : Stuck) → IsRead (Err e) (lexemes ts) (read (lexemes ts))
        → check file ≡ refused (answer 4 (get_or places e.token (length file)) 0)
    unfolding IsRead
    says_4 e r =
        check_4 file w.short w.cut room r.1
        ∙ ap (λ (k : ℕ). refused (answer 4 k 0))
        (stuck_place (length file) e.token w (omega (arith, r.0, lexemes_length ts)))

    pub tree_read : IsRead (Ok tt) (lexemes ts) (read (lexemes ts)) → (m : Monitor) × (spell m ≡ lexemes ts)
    unfolding IsRead
    tree_read r = (r.0, (read_spells (lexemes ts) r.0 [] r.1).0)

    module _ (m : Monitor) (spelt : spell m ≡ lexemes ts) where
      tree : read (lexemes ts) ≡ got m []
      tree = ap read (sym spelt) ∙ spelled_read m

      -- 5
      pub says_5 : {k : ℕ} → past_limit 0 0 0 0 ts ≡ some k → check file ≡ refused (answer 5 k 0)
      says_5 = check_5 file w.short w.cut room tree

      module _ (few : past_limit 0 0 0 0 ts ≡ none) where
        -- 6
        pub says_6 : {k : ℕ} → misnamed (number 0) [] [] ts ≡ some k → check file ≡ refused (answer 6 k 0)
        says_6 = check_6 file w.short w.cut room tree few

        module _ (names : misnamed (number 0) [] [] ts ≡ none) where
          -- 7
          pub says_7 : (e : BadRange)
              → Ranged (all m.vars) (lexemes ts) (key k_keep ∷ behind_keep m) first_var (Err e)
              → check file ≡ refused (answer 7 (get_or places e.token 0) 0)
          unfolding Ranged
          says_7 e (i, t, at) =
              check_7 file w.short w.cut room tree few names (rw at (ill_ranged_byte ts m spelt w t))

          pub no_7 : (d : Declared) → Ranged (all m.vars) (lexemes ts) (key k_keep ∷ behind_keep m) first_var (Ok d)
              → ill_ranged 1 (all m.vars) (places_of k_var ts) ≡ none
          unfolding Ranged
          no_7 d r = ill_ranged_good (places_of k_var ts) r.0.good r.0.few_states

          module _ (ranges : ill_ranged 1 (all m.vars) (places_of k_var ts) ≡ none) where
            -- 15
            pub says_15 : {k : ℕ} → unvalued (all m.vars) false ts ≡ some k → check file ≡ refused (answer 15 k 0)
            says_15 = check_15 file w.short w.cut room tree few names ranges

            module _ (valued : unvalued (all m.vars) false ts ≡ none) where
              -- 8
              pub says_8 : (k : ℕ) → drop k (lexemes ts) ≡ key k_keep ∷ behind_keep m
                  → kept_at m (starts (all m.vars)) ≡ false → check file ≡ refused (answer 8 (get_or places k 0) 0)
              says_8 k at h =
                  check_8 file w.short w.cut room tree few names ranges valued h
                  ∙ ap (λ (b : ℕ). refused (answer 8 b 0)) (sym (keep_byte ts m spelt k at w))

              module _ (start : kept_at m (starts (all m.vars)) ≡ true) where
                -- 9
                pub says_9 : {k n : ℕ} → broken m ≡ some (k, n)
                    → check file ≡ refused (answer 9 k n)
                says_9 = check_9 file w.short w.cut room tree few names ranges valued start

                pub says_0 : broken m ≡ none → check file ≡ accepted m
                says_0 = check_0 file w.short w.cut room tree few names ranges valued start

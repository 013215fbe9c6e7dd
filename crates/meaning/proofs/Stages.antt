-- `check` by stages: what it answers, from the values of the passes, the reading and the tests in their order.
use Prim.Native.Nat.{ℕ, ◌≤◌, ◌<◌}
use mathlib.Core.Path.{◌≡◌}
use mathlib.Core.Bool.{true, false}
use mathlib.Core.List.{List, []}
use mathlib.Core.Option.{none, some}
use lib.ListN.{length, get_or}
use borrow.Author.Tests.{lt-ltb, le-ltb}
use Rattle.syntax.specs.Token.{Lexeme, number, k_var, k_keep, Token, lexemes}
use Rattle.syntax.specs.Decide.Scan.{tokens, none_at, tokenize}
use Rattle.syntax.specs.Tree.{Monitor, all}
use Rattle.syntax.specs.Decide.Reading.{got, stuck, read}
use Rattle.meaning.specs.State.{starts}
use Rattle.meaning.specs.Kept.{kept_at}
use Rattle.meaning.specs.Answer.{answer, accepted, refused}
use Rattle.meaning.specs.Decide.Check.{crowded, past_limit, misnamed, places_of, place_of, left_of, ill_ranged, unvalued}
use Rattle.meaning.specs.Decide.Check.{broken, check_meaning, check_tokens, check}

pub check_1 : (file : List ℕ) → 8192 < length file → check file ≡ refused (answer 1 0 0)
unfolding check
check_1 file long = cc (lt-ltb 8192 (length file) long)

module _ (file : List ℕ) (short : length file ≤ 8192) where
  pub check_2 : {k : ℕ} → tokenize file ≡ none_at k → check file ≡ refused (answer 2 k 0)
  unfolding check
  check_2 e = cc (le-ltb 8192 (length file) short)

  module _ {ts : List Token} (cut : tokenize file ≡ tokens ts) where
    by_tokens : check file ≡ check_tokens (length file) ts
    unfolding check
    by_tokens = cc (le-ltb 8192 (length file) short)

    pub check_3 : {k : ℕ} → crowded 0 0 0 ts ≡ some k → check file ≡ refused (answer 3 k 0)
    unfolding check_tokens
    check_3 e = cc by_tokens

    module _ (room : crowded 0 0 0 ts ≡ none) where
      pub check_4 : {ls : List Lexeme} → read (lexemes ts) ≡ stuck ls
          → check file ≡ refused (answer 4 (place_of (length file) (left_of ts ls)) 0)
      unfolding check_tokens
      check_4 e = cc by_tokens

      module _ {m : Monitor} {us : List Lexeme} (tree : read (lexemes ts) ≡ got m us) where
        pub check_5 : {k : ℕ} → past_limit 0 0 0 0 ts ≡ some k → check file ≡ refused (answer 5 k 0)
        unfolding check_tokens
        check_5 e = cc by_tokens

        module _ (few : past_limit 0 0 0 0 ts ≡ none) where
          pub check_6 : {k : ℕ} → misnamed (number 0) [] [] ts ≡ some k → check file ≡ refused (answer 6 k 0)
          unfolding check_tokens
          check_6 e = cc by_tokens

          module _ (names : misnamed (number 0) [] [] ts ≡ none) where
            by_meaning : check file ≡ check_meaning ts m
            unfolding check_tokens
            by_meaning = cc by_tokens

            pub check_7 : {k : ℕ} → ill_ranged 1 (all m.vars) (places_of k_var ts) ≡ some k
                → check file ≡ refused (answer 7 k 0)
            unfolding check_meaning
            check_7 e = cc by_meaning

            module _ (ranges : ill_ranged 1 (all m.vars) (places_of k_var ts) ≡ none) where
              pub check_15 : {k : ℕ} → unvalued (all m.vars) false ts ≡ some k
                  → check file ≡ refused (answer 15 k 0)
              unfolding check_meaning
              check_15 e = cc by_meaning

              module _ (valued : unvalued (all m.vars) false ts ≡ none) where
                pub check_8 : kept_at m (starts (all m.vars)) ≡ false
                    → check file ≡ refused (answer 8 (get_or (places_of k_keep ts) 0 0) 0)
                unfolding check_meaning
                check_8 e = cc by_meaning

                module _ (start : kept_at m (starts (all m.vars)) ≡ true) where
                  pub check_9 : {k n : ℕ} → broken m ≡ some (k, n)
                      → check file ≡ refused (answer 9 k n)
                  unfolding check_meaning
                  check_9 e = cc by_meaning

                  pub check_0 : broken m ≡ none → check file ≡ accepted m
                  unfolding check_meaning
                  check_0 e = cc by_meaning

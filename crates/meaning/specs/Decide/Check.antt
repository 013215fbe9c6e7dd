-- The refusals 1 to 9 and 15 of a file, in their order, computed. `proofs/Verdicts` shows that a file's verdict is the one
-- that `Accepted` and `Refusal` say.
use Rattle.std.specs.Prelude.{ℕ, ◌+◌, ◌*◌, ◌-◌, Bool, true, false, ◌&&◌, ◌||◌, not, List, [], ◌∷◌, length, get_or, drop, ltb, leb, ℤ, pos, neg_ℤ}
use Rattle.std.proofs.Math.Option.{Option, none, some}
use Rattle.syntax.specs.Limits.{most_bytes, most_tokens, most_open, most_vars, most_methods, most_tries}
use Rattle.machine.specs.Limits.{most_regions, most_states}
use Rattle.syntax.specs.Bytes.{same_bytes}
use Rattle.syntax.specs.Token.{Lexeme, name, key, number, mark, Keyword, k_monitor, k_var, k_keep, k_method}
use Rattle.syntax.specs.Token.{k_waituntil, k_try, k_mod, semicolon, lbrace, Token, lexemes}
use Rattle.syntax.specs.Decide.Lexeme.{is_key, is_mark}
use Rattle.syntax.specs.Decide.Scan.{tokens, none_at, tokenize}
use Rattle.syntax.specs.Tree.{Atom, Region, Var, Monitor, all}
use Rattle.syntax.specs.Decide.Reading.{Got, got, stuck, read_atom, read}
use Rattle.meaning.specs.Value.{int_of, less, in_range, atom_value, truth}
use Rattle.meaning.specs.Decide.Bodies.{outcome}
use Rattle.meaning.specs.Decide.First.{first_where}
use Rattle.meaning.specs.State.{size, starts, lowest}
use Rattle.meaning.specs.Kept.{kept_at}
use Rattle.meaning.specs.Answer.{Verdict, accepted, answer, refused}
use Rattle.meaning.specs.Accepted.{closes, opens}
use Rattle.meaning.specs.Runs.{regions_of}

unfoldable pub tally : Bool → ℕ → ℕ
tally true n = n + 1
tally false n = n

unfoldable pub crowded : ℕ → ℕ → ℕ → List Token → Option ℕ
crowded passed opened closed [] = none
crowded passed opened closed (t ∷ ts) =
    elim (leb most_tokens passed || (opens t.lexeme && leb (closed + most_open) opened)) [
      | true ↦ some t.at
      | false ↦ crowded (passed + 1) (tally (opens t.lexeme) opened) (tally (closes t.lexeme) closed) ts
    ]

-- 4: the place of the first of the tokens that are left, and the file's length where there are none
unfoldable pub place_of : ℕ → List Token → ℕ
place_of end [] = end
place_of end (t ∷ ts) = t.at

unfoldable pub left_of : List Token → List Lexeme → List Token
left_of ts ls = drop (length ts - length ls) ts

-- 5: "first var past 6, method past 8 or waituntil past 16", or "try past sixteen"; how many of each were passed before
unfoldable pub past_limit : ℕ → ℕ → ℕ → ℕ → List Token → Option ℕ
past_limit vs ms ws cs [] = none
past_limit vs ms ws cs (t ∷ ts) =
    elim ((is_key k_var t.lexeme && leb most_vars vs) || (is_key k_method t.lexeme && leb most_methods ms)
    || (is_key k_waituntil t.lexeme && leb most_regions ws) || (is_key k_try t.lexeme && leb most_tries cs)) [
      | true ↦ some t.at
      | false ↦ past_limit (tally (is_key k_var t.lexeme) vs) (tally (is_key k_method t.lexeme) ms)
          (tally (is_key k_waituntil t.lexeme) ws) (tally (is_key k_try t.lexeme) cs) ts
    ]

-- 6: a name after `var` or `method` declares, one after `monitor` does neither, and any other is a use of a variable;
-- the lexeme before, and the variables and methods declared so far
unfoldable pub member : List ℕ → List (List ℕ) → Bool
member x [] = false
member x (y ∷ ys) = same_bytes x y || member x ys

unfoldable pub misnamed : Lexeme → List (List ℕ) → List (List ℕ) → List Token → Option ℕ
misnamed before vs ms [] = none
misnamed before vs ms (t ∷ ts) =
    elim t.lexeme [
      | name x ↦ elim (is_key k_var before) [
        | true ↦ elim (member x vs) [ true ↦ some t.at | false ↦ misnamed (name x) (x ∷ vs) ms ts ]
        | false ↦ elim (is_key k_method before) [
          | true ↦ elim (member x ms) [ true ↦ some t.at | false ↦ misnamed (name x) vs (x ∷ ms) ts ]
          | false ↦ elim (is_key k_monitor before || member x vs)
              [ true ↦ misnamed (name x) vs ms ts | false ↦ some t.at ]
        ]
      ]
      | key k ↦ misnamed (key k) vs ms ts
      | number n ↦ misnamed (number n) vs ms ts
      | mark m ↦ misnamed (mark m) vs ms ts
    ]

-- the places of the tokens that are a keyword
unfoldable pub places_of : Keyword → List Token → List ℕ
places_of k [] = []
places_of k (t ∷ ts) = elim (is_key k t.lexeme) [ true ↦ t.at ∷ places_of k ts | false ↦ places_of k ts ]

-- 7: "lowest above highest, either outside -128 to 127, start outside them"
unfoldable pub in_byte : ℤ → Bool
in_byte a = not (less a (neg_ℤ (pos 128))) && not (less (pos 127) a)

unfoldable pub good_range : Var → Bool
good_range v =
    not (less (int_of v.high) (int_of v.low)) && in_byte (int_of v.low) && in_byte (int_of v.high)
    && in_range v (int_of v.start)

-- the first variable with a bad range, "or which takes the product of range sizes above 4,096": the product so far, and
-- the places of `var`
unfoldable pub ill_ranged : ℕ → List Var → List ℕ → Option ℕ
ill_ranged product [] ps = none
ill_ranged product (v ∷ vs) ps =
    elim (good_range v && leb (product * size v) most_states)
    [ true ↦ ill_ranged (product * size v) vs (drop 1 ps) | false ↦ some (get_or ps 0 0) ]

-- 15: the condition of keep, a try or a guard stands behind `keep`, `try` or `waituntil`, before the next `;` or `{`. Whether
-- the next lexeme stands in one, from whether this one does
unfoldable pub asks : Bool → Lexeme → Bool
asks on l =
    is_key k_keep l || is_key k_try l || is_key k_waituntil l || (on && not (is_mark semicolon l || is_mark lbrace l))

-- the least value that a divisor takes, of what is read of it, is below 1 (R 6.37)
unfoldable pub low_divisor : List Var → Got Atom → Bool
low_divisor vs (got b ls) = less (atom_value vs (lowest vs) b) (pos 1)
low_divisor vs (stuck ls) = false

-- the first `mod` of such conditions that may lack a value
unfoldable pub unvalued : List Var → Bool → List Token → Option ℕ
unvalued vs on [] = none
unvalued vs on (t ∷ ts) =
    elim (on && is_key k_mod t.lexeme && low_divisor vs (read_atom (lexemes ts)))
    [ true ↦ some t.at | false ↦ unvalued vs (asks on t.lexeme) ts ]

-- 9: from these values, "meeting kept condition and guard", "the body assigns outside a range at any moment or ends
-- with the kept condition false", or lacks a value; of a body's outcome, for any test of values
unfoldable pub kept_after : (List ℤ → Bool) → Option (List ℤ) → Bool
kept_after kept none = false
kept_after kept (some as') = kept as'

unfoldable pub breaks : List Var → (List ℤ → Bool) → Region → List ℤ → Bool
breaks vs kept r as' = kept as' && truth r.guard vs as' && not (kept_after kept (outcome r vs as'))

-- "lowest region, then lowest state"
unfoldable pub broken : Monitor → Option (ℕ × ℕ)
broken m = first_where (all m.vars) (breaks (all m.vars) (kept_at m)) 0 (regions_of (all m.methods))

-- 7, 15, 8 and 9, of a tree and its tokens
unfoldable pub check_meaning : List Token → Monitor → Verdict
check_meaning ts m =
    let vs = all m.vars in
    elim (ill_ranged 1 vs (places_of k_var ts)) [
      | some k ↦ refused (answer 7 k 0)
      | none ↦ elim (unvalued vs false ts) [
        | some k ↦ refused (answer 15 k 0)
        | none ↦ elim (kept_at m (starts vs)) [
          | false ↦ refused (answer 8 (get_or (places_of k_keep ts) 0 0) 0)
          | true ↦ elim (broken m) [ some rn ↦ refused (answer 9 rn.0 rn.1) | none ↦ accepted m ]
        ]
      ]
    ]

-- 3 to 9 and 15, of the tokens of a file of some length
unfoldable pub check_tokens : ℕ → List Token → Verdict
check_tokens end ts =
    elim (crowded 0 0 0 ts) [
      | some k ↦ refused (answer 3 k 0)
      | none ↦ elim (read (lexemes ts)) [
        | stuck ls ↦ refused (answer 4 (place_of end (left_of ts ls)) 0)
        | got m ls ↦ elim (past_limit 0 0 0 0 ts) [
          | some k ↦ refused (answer 5 k 0)
          | none ↦ elim (misnamed (number 0) [] [] ts) [ some k ↦ refused (answer 6 k 0) | none ↦ check_meaning ts m ]
        ]
      ]
    ]

unfoldable pub check : List ℕ → Verdict
check file =
    elim (ltb most_bytes (length file)) [
      | true ↦ refused (answer 1 0 0)
      | false ↦ elim (tokenize file) [ none_at k ↦ refused (answer 2 k 0) | tokens ts ↦ check_tokens (length file) ts ]
    ]

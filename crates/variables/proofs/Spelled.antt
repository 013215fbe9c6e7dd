-- What stands at the tokens of an integer and of a variable, and where reading goes on behind them.
use Rattle.std.proofs.Common.{◌≡◌, ℕ, ◌+◌, ◌-◌, ◌<◌, List, ◌∷◌, ◌++◌, length, get_or, drop, sym, refl, ap, ◌∙◌, append_assoc, arith, length-append}
use Rattle.syntax.specs.Token.{Lexeme, name, key, number, mark, minus, equals, dots, semicolon, k_var, k_in}
use Rattle.syntax.specs.Decide.Lexeme.{mark_number}
use Rattle.syntax.specs.Held.Kind.{kind_of}
use Rattle.syntax.specs.Tree.{Int, plain, negated, Var, spell_int, spell_var}
use Rattle.meaning.specs.Value.{int_of}
use Rattle.variables.specs.Bounded.{Numbers}
use Rattle.variables.specs.Places.{to_start, plain_long, negated_long}
use Rattle.meaning.proofs.Offsets.{pos_shifted, neg_shifted}
use Rattle.variables.specs.Promises.{SpelledInt, IntAt, SpelledVar}
use Rattle.variables.specs.declared.Integer.{Integer}
use Rattle.logic.proofs.Indices.{elem_left, drop_next, elem_map}

length_var : (v : Var)
    → length (spell_var v) ≡ 6 + length (spell_int v.start) + length (spell_int v.low) + length (spell_int v.high)
unfolding spell_var
length_var v = simp length-append (omega arith)

module _ {ls : List Lexeme} {kinds values : List ℕ} (held : Numbers ls kinds values) where
  pub kind_is : (at : ℕ) (l : Lexeme) (rest : List Lexeme) → drop at ls ≡ l ∷ rest → get_or kinds at 0 ≡ kind_of l
  kind_is at l rest e = rw (← held.by_kind) (elem_map kind_of ls at l 0 (elem_left ls at l rest e))

  value_is : (at n : ℕ) (rest : List Lexeme) → drop at ls ≡ number n ∷ rest → (get_or values at 0 ≡ n) × (n < 1000)
  value_is at n rest e =
      let h = elem_left ls at (number n) rest e in
      (held.by_number at n h, held.numbers_small at n h)

  module _ (rest : List Lexeme) (at : ℕ) where
    pub minus_int : (n : Int) → drop at ls ≡ spell_int n ++ rest → get_or kinds at 0 ≡ kind_of (mark minus)
        → SpelledInt ls rest n at (record { value = 65536 - get_or values (at + 1) 0; next = at + negated_long })
    unfolding spell_int int_of kind_of mark_number
    minus_int (plain n) e k = absurd (omega (arith, kind_is at (number n) rest e))
    minus_int (negated n) e k =
        let one : drop (at + 1) ls ≡ number n ∷ rest = drop_next ls at (mark minus) (number n ∷ rest) e in
        let v = value_is (at + 1) n rest one in
        let two : at + 1 + 1 ≡ at + negated_long = omega arith in
        record {
          held = rw v.0 (neg_shifted 65536 n (omega arith));
          behind = ap (λ (i : ℕ). drop i ls) (sym two) ∙ drop_next ls (at + 1) (number n) rest one;
          place = refl;
        }

    pub plain_int : (n : Int) → drop at ls ≡ spell_int n ++ rest → (get_or kinds at 0 ≡ kind_of (mark minus) → ⊥)
        → SpelledInt ls rest n at (record { value = 65536 + get_or values at 0; next = at + plain_long })
    unfolding spell_int int_of kind_of mark_number
    plain_int (plain n) e k =
        let v = value_is at n rest e in
        record {
          held = rw v.0 (pos_shifted 65536 n);
          behind = drop_next ls at (number n) rest e;
          place = refl;
        }
    plain_int (negated n) e k = absurd (k (kind_is at (mark minus) (number n ∷ rest) e))

  -- a variable, from its three integers
  module _ (v : Var) (rest : List Lexeme) (at : ℕ) (e : drop at ls ≡ spell_var v ++ rest) (start low high : Integer)
      (r₁ : IntAt kinds values (at + to_start) start) (r₂ : IntAt kinds values (start.next + 1) low)
      (r₃ : IntAt kinds values (low.next + 1) high) where
    abbrev after_high : List Lexeme
    after_high = mark semicolon ∷ rest

    abbrev after_low : List Lexeme
    after_low = mark dots ∷ (spell_int v.high ++ after_high)

    abbrev after_start : List Lexeme
    after_start = key k_in ∷ (spell_int v.low ++ after_low)

    parts : spell_var v ++ rest ≡ key k_var ∷ name v.title ∷ mark equals ∷ (spell_int v.start ++ after_start)
    unfolding spell_var
    parts = simp append_assoc

    begins : drop (at + to_start) ls ≡ spell_int v.start ++ after_start
    begins =
        let three : at + to_start ≡ at + 1 + 1 + 1 = omega arith in
        let d₁ = drop_next ls at _ _ (e ∙ parts) in
        let d₂ = drop_next ls (at + 1) _ _ d₁ in
        ap (λ (i : ℕ). drop i ls) three ∙ drop_next ls (at + 1 + 1) _ _ d₂

    pub spelled_var : SpelledVar ls rest v at
        (record { start = start.value; low = low.value; high = high.value; next = high.next + 1 })
    spelled_var =
        let s = r₁.spelled ls after_start v.start held begins in
        let l = r₂.spelled ls after_low v.low held (drop_next ls start.next _ _ s.behind) in
        let h = r₃.spelled ls after_high v.high held (drop_next ls low.next _ _ l.behind) in
        record {
          held = record { start = s.held; low = l.held; high = h.held };
          behind = drop_next ls high.next _ _ h.behind;
          place = omega (arith, s.place, l.place, h.place, length_var v);
        }

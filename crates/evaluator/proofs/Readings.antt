-- Readings of expressions and conditions, one law for each way that the code goes: what is read at a place from what
-- was read at its parts.
use Prim.Native.Nat.{ℕ, suc, ◌+◌, ◌-◌, ◌≤◌, ◌<◌}
use native.Mathlib.Omega.{arith}
use native.Mathlib.Nat.{add-zero}
use native.Mathlib.Numerals.{add-one}
use mathlib.Core.Path.{◌≡◌, refl, sym, ap, ◌∙◌, subst}
use mathlib.Core.Bool.{Bool, true, false, not, ◌&&◌, ◌||◌, cond, true≢false}
use mathlib.Core.List.{List, [], ◌∷◌, ◌++◌, append_assoc}
use mathlib.Core.Logic.{◌⊎◌, inl, inr, ⊎_elim}
use mathlib.Core.Option.{Option, some}
use lib.Dec.{eqb}
use lib.ListN.{length, get_or, drop, replicate, get_or-replicate}
use lib.IntN.{ℤ, pos, neg_ℤ, ◌-ℤ◌, +ℤ_idl}
use borrow.Author.Tests.{eqb-false}
use Rattle.sets.specs.Set.{member}
use Rattle.syntax.specs.Token.{Lexeme, mark, key, Mark, lparen, rparen, semicolon, plus}
use Rattle.syntax.specs.Decide.Lexeme.{mark_number, keyword_number}
use Rattle.syntax.specs.Token.{bang}
use Rattle.syntax.specs.Token.{and_and, or_or, k_true, k_false, k_mod}
use Rattle.syntax.specs.Token as token
use Rattle.syntax.specs.Held.Kind.{kind_of, name_kind, number_kind, no_kind}
use Rattle.syntax.specs.Tree.{Var, plain, negated, Atom, literal, variable, Sign, added, taken, Term, alone, remainder}
use Rattle.syntax.specs.Tree.{Signed, Expr, Comparison, eq, ne, lt, le, gt, ge, only, or, just, and, Simple, negation}
use Rattle.syntax.specs.Tree.{bracketed, constant, compare, each, spell_int, spell_atom, sign_mark, spell_term, spell_signed}
use Rattle.syntax.specs.Tree.{spell_expr, comparison_mark, spell_constant, spell_cond, spell_conj, spell_simple}
use Rattle.meaning.specs.Value.{int_of, atom_value, modulo, of_one, of_both, term_value, joined, terms_value, expr_value}
use Rattle.meaning.specs.Value.{compares, cond_value, conj_value, simple_value}
use Rattle.evaluator.specs.Coding.{Codes, EndsCond, lane}
use Rattle.meaning.specs.Held.{Biased}
use Rattle.evaluator.specs.Promises.{Next, front_kind, EndsTerm, EndsExpr, EndsConj, EndsWhole, operand, AtomRead}
use Rattle.evaluator.specs.Promises.{Small, Adds, given, Remains, worth, sign_of, Near, Joined, Sums, TermRead}
use Rattle.evaluator.specs.Promises.{ExprRead, test_of, Truths, spell_compared, compared_value, CompareRead}
use Rattle.evaluator.specs.Promises.{SimpleRead, CondRead}
use Rattle.evaluator.proofs.Lacking.{given_as, of_one_lem, of_both_lem, of_chain, of_first, of_same, all_there}
use Rattle.evaluator.proofs.Numbers.{compares_worth, joined_zero, joined_parts}
use Rattle.evaluator.proofs.Places.{front_is, behind, number_at, name_at, apart, kind_within}
use Rattle.evaluator.proofs.Slots.{slot_value, slot_held}

-- Atoms

-- what an atom begins with
unfoldable pub atom_kind : Atom → ℕ
atom_kind (literal (plain n)) = number_kind
atom_kind (literal (negated n)) = kind_of (mark token.minus)
atom_kind (variable x) = name_kind

module _ {ks values : List ℕ} where
  pub atom_name : {at n slot : ℕ} → get_or ks at no_kind ≡ name_kind → Next ks at n → slot ≡ get_or values at 0
      → AtomRead ks values at slot 128 128 n
  unfolding front_kind spell_atom spell_int kind_of mark_number atom_value
  atom_name {at} {n} {slot} kind next value = record {
    from = next.from;
    to = next.to;
    parts = record { plus_small = omega arith; minus_small = omega arith; of_variable = λ h. refl };
    reads = λ vs as' vars ls us a codes biased e. go vs as' vars ls us a codes biased e (front_is codes at kind e);
  }
    where
      go : (vs : List Var) (as' : List ℤ) (vars : List ℕ) (ls us : List Lexeme) (a : Atom) → Codes vs ls ks values
          → Biased vs as' vars
          → drop at ls ≡ spell_atom a ++ us → front_kind (spell_atom a ++ us) ≡ name_kind
          → (atom_value vs as' a ≡ pos (operand vars slot 128) -ℤ pos 128) × (drop n ls ≡ us)
      go vs as' vars ls us (literal (plain k)) codes biased e f = apart number_kind name_kind refl refl f
      go vs as' vars ls us (literal (negated k)) codes biased e f =
          apart (kind_of (mark token.minus)) name_kind refl refl f
      go vs as' vars ls us (variable x) codes biased e f = (
        slot_value vs as' x biased.each_value
            ∙ ap (λ (k : ℕ). get_or as' k (pos 0)) (sym (value ∙ name_at codes at x e)) ∙ slot_held biased slot,
        behind codes next e,
      )

  pub atom_minus : {at r n m : ℕ} → get_or ks at no_kind ≡ kind_of (mark token.minus) → Next ks at r → Next ks r n
      → m ≤ 65535 → m ≡ get_or values r 0
      → AtomRead ks values at 6 0 m n
  unfolding front_kind spell_atom spell_int kind_of mark_number atom_value int_of operand
  atom_minus {at} {r} {n} {m} kind one two small value = record {
    from = omega (arith, one.from, two.from);
    to = two.to;
    parts = record { plus_small = omega arith; minus_small = small; of_variable = λ h. absurd (omega arith) };
    reads = λ vs as' vars ls us a codes biased e. go vs as' ls us a codes e (front_is codes at kind e);
  }
    where
      go : (vs : List Var) (as' : List ℤ) (ls us : List Lexeme) (a : Atom) → Codes vs ls ks values
          → drop at ls ≡ spell_atom a ++ us → front_kind (spell_atom a ++ us) ≡ kind_of (mark token.minus)
          → (atom_value vs as' a ≡ pos 0 -ℤ pos m) × (drop n ls ≡ us)
      go vs as' ls us (literal (plain k)) codes e f = apart number_kind (kind_of (mark token.minus)) refl refl f
      go vs as' ls us (literal (negated k)) codes e f = (
        sym (+ℤ_idl (neg_ℤ (pos k))) ∙ ap (λ (j : ℕ). pos 0 -ℤ pos j) (sym (number_at codes r k (behind codes one e))
            ∙ sym value),
        behind codes two (behind codes one e),
      )
      go vs as' ls us (variable x) codes e f = apart name_kind (kind_of (mark token.minus)) refl refl f

  pub atom_number : {at n p : ℕ} → (get_or ks at no_kind ≡ name_kind → ⊥)
      → (get_or ks at no_kind ≡ kind_of (mark token.minus) → ⊥) → Next ks at n
      → p ≤ 65535 → p ≡ get_or values at 0 → AtomRead ks values at 6 p 0 n
  unfolding front_kind spell_atom spell_int kind_of mark_number atom_value int_of operand
  atom_number {at} {n} {p} no_name no_minus next small value = record {
    from = next.from;
    to = next.to;
    parts = record { plus_small = small; minus_small = omega arith; of_variable = λ h. absurd (omega arith) };
    reads = λ vs as' vars ls us a codes biased e. go vs as' ls us a codes e (front_is codes at refl e);
  }
    where
      go : (vs : List Var) (as' : List ℤ) (ls us : List Lexeme) (a : Atom) → Codes vs ls ks values
          → drop at ls ≡ spell_atom a ++ us → front_kind (spell_atom a ++ us) ≡ get_or ks at no_kind
          → (atom_value vs as' a ≡ pos p -ℤ pos 0) × (drop n ls ≡ us)
      go vs as' ls us (literal (plain k)) codes e f =
          (ap pos (sym (number_at codes at k e) ∙ sym value ∙ sym (add-zero p)), behind codes next e)
      go vs as' ls us (literal (negated k)) codes e f = absurd (no_minus (sym f))
      go vs as' ls us (variable x) codes e f = absurd (no_name (sym f))

-- Signs

sign_same : (s t : Sign) → kind_of (mark (sign_mark s)) ≡ kind_of (mark (sign_mark t)) → s ≡ t
unfolding mark_number sign_mark kind_of keyword_number
sign_same added added e = refl
sign_same added taken e = apart (kind_of (mark plus)) (kind_of (mark token.minus)) refl refl e
sign_same taken added e = apart (kind_of (mark token.minus)) (kind_of (mark plus)) refl refl e
sign_same taken taken e = refl

sign_ends : {A : Type 0} (s : Sign) (k : ℕ) → (k ≡ kind_of (mark plus) → ⊥) → (k ≡ kind_of (mark token.minus) → ⊥)
    → k ≡ kind_of (mark (sign_mark s)) → A
unfolding mark_number sign_mark
sign_ends added k f g e = absurd (f e)
sign_ends taken k f g e = absurd (g e)

pub sign_no_mod : (s : Sign) {k : ℕ} → k ≡ kind_of (mark (sign_mark s)) → k ≡ kind_of (key k_mod) → ⊥
unfolding mark_number sign_mark kind_of keyword_number
sign_no_mod added e h = apart (kind_of (mark plus)) (kind_of (key k_mod)) refl e h
sign_no_mod taken e h = apart (kind_of (mark token.minus)) (kind_of (key k_mod)) refl e h

-- a sign is a token
pub past_sign : {ks : List ℕ} {at r : ℕ} (s : Sign) → Next ks at r → get_or ks at no_kind ≡ kind_of (mark (sign_mark s))
    → r ≡ suc at
unfolding mark_number sign_mark kind_of keyword_number
past_sign added next e = (kind_within (kind_of (mark plus)) next e refl).1
past_sign taken next e = (kind_within (kind_of (mark token.minus)) next e refl).1

-- Terms

-- what `moved` is asked to do of what a term adds, less b, as it is added to sums or taken away
module _ {lanes plus' : List ℕ} {b : ℕ} where
  pub joined_fits : Near 8192 lanes → Small plus' → b ≤ 65535 → (minus : Bool) → (j : ℕ) → j < 16
      → (get_or lanes j 0 + get_or (cond minus (replicate 16 b) plus') j 0 < 4294967296)
      × (get_or (cond minus plus' (replicate 16 b)) j 0 ≤ get_or lanes j 0 + get_or (cond minus (replicate 16 b) plus') j 0)
  joined_fits near smalls few true j l =
      rw (get_or-replicate 16 j b 0 l) (omega (arith, near.most j l, near.least j l, smalls.each j l))
  joined_fits near smalls few false j l =
      rw (get_or-replicate 16 j b 0 l) (omega (arith, near.most j l, near.least j l, smalls.each j l))

  pub joined_is : {taken' : Bool} {sums : List ℕ} (minus : Bool) → taken' ≡ minus
      → ((j : ℕ) → j < 16 → get_or sums j 0
      ≡ get_or lanes j 0 + get_or (cond minus (replicate 16 b) plus') j 0 - get_or (cond minus plus' (replicate 16 b)) j 0)
      → Joined taken' plus' b lanes sums
  joined_is true e is = record { each = λ j l. rw (e, is j l, get_or-replicate 16 j b 0 l) }
  joined_is false e is = record { each = λ j l. rw (e, is j l, get_or-replicate 16 j b 0 l) }

small : (minus : Bool) (x y : ℕ) → x ≤ 65535 → y ≤ 65535 → cond minus x y ≤ 65535
small true x y h k = h
small false x y h k = k

-- what a term adds, less b, added to a sum in each lane or taken away
module _ {lanes plus' sums : List ℕ} {at b : ℕ} (near : Near at lanes) (short : at ≤ 8192) (smalls : Small plus')
    (few : b ≤ 65535) {minus : Bool} (sum : Joined minus plus' b lanes sums) where
  up : (j : ℕ) → j < 16 → cond minus b (get_or plus' j 0) ≤ 65535
  up j l = small minus b (get_or plus' j 0) few (smalls.each j l)

  down : (j : ℕ) → j < 16 → cond minus (get_or plus' j 0) b ≤ 65535
  down j l = small minus (get_or plus' j 0) b (smalls.each j l) few

  joined_near : {n : ℕ} → at ≤ n → Near (n + 1) sums
  joined_near h = record {
    most = λ j l. omega (arith, sum.each j l, up j l, near.most j l);
    least = λ j l. omega (arith, sum.each j l, down j l, near.least j l);
  }

  joined_worth : (j : ℕ) → j < 16
      → joined (sign_of minus) (worth (get_or lanes j 0)) (pos (get_or plus' j 0) -ℤ pos b) ≡ worth (get_or sums j 0)
  joined_worth j l =
      joined_parts minus (get_or lanes j 0) (get_or plus' j 0) b (omega (arith, down j l, near.least j l))
      ∙ ap worth (sym (sum.each j l))

module _ {ks values vars lanes : List ℕ} (lacks : ℕ) {at slot a b n : ℕ} (left : AtomRead ks values at slot a b n)
    (near : Near at lanes) (short : at ≤ 8192) {minus : Bool} where
  -- no `mod` behind the atom
  pub term_alone : {one sums : List ℕ} → (get_or ks n no_kind ≡ kind_of (key k_mod) → ⊥)
      → Adds vars slot a one → Joined minus one b lanes sums
      → TermRead ks values vars minus lanes lacks at sums lacks n
  unfolding spell_term term_value front_kind kind_of keyword_number
  term_alone {one} {sums} no_mod ones sum = record {
    from = left.from;
    to = left.to;
    near = joined_near near short smalls left.parts.minus_small sum left.from;
    reads = λ j l vs as' ls us t codes biased e ends. go j l vs as' ls us t codes biased e;
  }
    where
      smalls : Small one
      smalls = ones.small left.parts.plus_small

      go : (j : ℕ) → j < 16 → (vs : List Var) (as' : List ℤ) (ls us : List Lexeme) (t : Term) → Codes vs ls ks values
          → Biased vs as' (lane vars j) → drop at ls ≡ spell_term t ++ us
          → (of_both (joined (sign_of minus)) (given (member lacks j) (worth (get_or lanes j 0))) (term_value vs as' t)
          ≡ given (member lacks j) (worth (get_or sums j 0))) × (drop n ls ≡ us)
      go j l vs as' ls us (alone x) codes biased e =
          let t = left.reads vs as' (lane vars j) ls us x codes biased e in (
            of_first (joined (sign_of minus)) (member lacks j) (worth (get_or lanes j 0)) (atom_value vs as' x)
                ∙ ap (given (member lacks j))
                (ap (joined (sign_of minus) (worth (get_or lanes j 0)))
                (t.0 ∙ ap (λ (k : ℕ). pos k -ℤ pos b) (sym (ones.is j l)))
                ∙ joined_worth near short smalls left.parts.minus_small sum j l),
            t.1,
          )
      go j l vs as' ls us (remainder x y) codes biased e =
          let t = left.reads vs as' (lane vars j) ls (key k_mod ∷ (spell_atom y ++ us)) x codes biased
          (e ∙ append_assoc (spell_atom x) (key k_mod ∷ spell_atom y) us) in
          absurd (no_mod (sym (front_is codes n refl t.1)))

  -- `mod`, and an atom behind it
  pub term_mod : {r slot' a' b' n' both q : ℕ} {rests sums : List ℕ} → get_or ks n no_kind ≡ kind_of (key k_mod)
      → Next ks n r → AtomRead ks values r slot' a' b' n' → Remains vars slot a b slot' a' b' rests q
      → ((u : ℕ) → member both u ≡ member lacks u || member q u)
      → Joined minus rests 0 lanes sums
      → TermRead ks values vars minus lanes lacks at sums both n'
  unfolding spell_term term_value EndsTerm front_kind kind_of keyword_number
  term_mod {slot' = slot'} {a' = a'} {b' = b'} {n' = n'} {both = both} {q = q} {rests = rests} {sums = sums} kind next
      right remains joins sum =
      record {
        from = omega (arith, left.from, next.from, right.from);
        to = right.to;
        near = joined_near near short remains.small (omega arith) sum
            (omega (arith, left.from, next.from, right.from));
        reads = λ j l vs as' ls us t codes biased e ends. go j l vs as' ls us t codes biased e ends;
      }
    where
      go : (j : ℕ) → j < 16 → (vs : List Var) (as' : List ℤ) (ls us : List Lexeme) (t : Term) → Codes vs ls ks values
          → Biased vs as' (lane vars j) → drop at ls ≡ spell_term t ++ us → EndsTerm us
          → (of_both (joined (sign_of minus)) (given (member lacks j) (worth (get_or lanes j 0))) (term_value vs as' t)
          ≡ given (member both j) (worth (get_or sums j 0))) × (drop n' ls ≡ us)
      go j l vs as' ls us (alone x) codes biased e ends =
          let t = left.reads vs as' (lane vars j) ls us x codes biased e in
          absurd (ends (front_is codes n kind t.1))
      go j l vs as' ls us (remainder x y) codes biased e ends =
          let t = left.reads vs as' (lane vars j) ls (key k_mod ∷ (spell_atom y ++ us)) x codes biased
          (e ∙ append_assoc (spell_atom x) (key k_mod ∷ spell_atom y) us) in
          let u = right.reads vs as' (lane vars j) ls us y codes biased (behind codes next t.1) in
          let sign = joined (sign_of minus) in
          let sum' = worth (get_or lanes j 0) in (
            ap (of_both sign (given (member lacks j) sum'))
                (ap (λ z. modulo z (atom_value vs as' y)) t.0
                ∙ ap (modulo (pos (operand (lane vars j) slot a) -ℤ pos b)) u.0
                ∙ remains.is j l (record { each = biased.small }))
                ∙ of_both_lem sign (member lacks j) (member q j) sum' (pos (get_or rests j 0))
                ∙ ap (given (member lacks j || member q j))
                (ap (λ (k : ℕ). sign sum' (pos k)) (sym (add-zero (get_or rests j 0)))
                ∙ joined_worth near short remains.small (omega arith) sum j l)
                ∙ ap (λ p. given p (worth (get_or sums j 0))) (sym (joins j)),
            u.1,
          )

-- Sums

-- an expression behind sums and a sign
abbrev RestRead : List ℕ → List ℕ → List ℕ → Bool → List ℕ → ℕ → ℕ → List ℕ → ℕ → ℕ → Type 0
RestRead ks values vars minus lanes lacks at sums lacks' n =
    Sums spell_expr EndsExpr
    (λ j vs as' x. terms_value vs as'
    (of_both (joined (sign_of minus)) (given (member lacks j) (worth (get_or lanes j 0))) (term_value vs as' x.first))
    x.more)
    ks values vars at sums lacks' n

-- what stands behind the first term of an expression
more_ends : (ts : List Signed) (us : List Lexeme) → EndsExpr us → EndsTerm (each spell_signed ts ++ us)
unfolding EndsExpr EndsTerm front_kind each spell_signed sign_mark kind_of mark_number keyword_number
more_ends [] us ends = ends.2
more_ends (t ∷ ts) us ends = sign_no_mod t.sign refl

module _ {ks values vars : List ℕ} (minus : Bool) (lanes : List ℕ) (lacks : ℕ) {at n lacks' : ℕ} {sums : List ℕ}
    (term : TermRead ks values vars minus lanes lacks at sums lacks' n) where
  -- the first term of an expression, and what stands behind it
  first : (j : ℕ) → j < 16 → (vs : List Var) (as' : List ℤ) (ls us : List Lexeme) (x : Expr) → Codes vs ls ks values
      → Biased vs as' (lane vars j)
      → drop at ls ≡ spell_expr x ++ us → EndsExpr us
      → (of_both (joined (sign_of minus)) (given (member lacks j) (worth (get_or lanes j 0)))
      (term_value vs as' x.first) ≡ given (member lacks' j) (worth (get_or sums j 0)))
      × (drop n ls ≡ each spell_signed x.more ++ us)
  unfolding spell_expr
  first j l vs as' ls us x codes biased e ends =
      term.reads j l vs as' ls (each spell_signed x.more ++ us) x.first codes biased
      (e ∙ append_assoc (spell_term x.first) (each spell_signed x.more) us) (more_ends x.more us ends)

  -- no further term
  rest_end : (get_or ks n no_kind ≡ kind_of (mark plus) → ⊥) → (get_or ks n no_kind ≡ kind_of (mark token.minus) → ⊥)
      → RestRead ks values vars minus lanes lacks at sums lacks' n
  unfolding front_kind each spell_signed kind_of terms_value mark_number keyword_number
  rest_end no_plus no_minus = record {
    from = term.from;
    to = term.to;
    near = term.near;
    reads = λ j l vs as' ls us x codes biased e ends.
        let t = first j l vs as' ls us x codes biased e ends in
        go vs as' ls us x.more _ _ t.0 t.1 (front_is codes n refl t.1);
  }
    where
      go : (vs : List Var) (as' : List ℤ) (ls us : List Lexeme) (ts : List Signed) (z y : Option ℤ) → z ≡ y
          → drop n ls ≡ each spell_signed ts ++ us → front_kind (each spell_signed ts ++ us) ≡ get_or ks n no_kind
          → (terms_value vs as' z ts ≡ y) × (drop n ls ≡ us)
      go vs as' ls us [] z y h e f = (h, e)
      go vs as' ls us (t ∷ ts) z y h e f = sign_ends t.sign (get_or ks n no_kind) no_plus no_minus (sym f)

  -- a term more
  rest_more : (minus' : Bool) {r n' lacks'' : ℕ} {sums' : List ℕ}
      → get_or ks n no_kind ≡ kind_of (mark (sign_mark (sign_of minus')))
      → Next ks n r
      → RestRead ks values vars minus' sums lacks' r sums' lacks'' n'
      → RestRead ks values vars minus lanes lacks at sums' lacks'' n'
  unfolding front_kind spell_expr each spell_signed kind_of terms_value EndsExpr mark_number keyword_number
  rest_more minus' {r} {n'} {lacks''} {sums'} kind next rest = record {
    from = omega (arith, term.from, next.from, rest.from);
    to = rest.to;
    near = rest.near;
    reads = λ j l vs as' ls us x codes biased e ends.
        let t = first j l vs as' ls us x codes biased e ends in
        go j l vs as' ls us x.more codes biased _ t.0 t.1 ends (front_is codes n kind t.1);
  }
    where
      go : (j : ℕ) → j < 16 → (vs : List Var) (as' : List ℤ) (ls us : List Lexeme) (ts : List Signed)
          → Codes vs ls ks values
          → Biased vs as' (lane vars j) → (z : Option ℤ) → z ≡ given (member lacks' j) (worth (get_or sums j 0))
          → drop n ls ≡ each spell_signed ts ++ us → EndsExpr us
          → front_kind (each spell_signed ts ++ us) ≡ kind_of (mark (sign_mark (sign_of minus')))
          → (terms_value vs as' z ts ≡ given (member lacks'' j) (worth (get_or sums' j 0))) × (drop n' ls ≡ us)
      go j l vs as' ls us [] codes biased z h e ends f = sign_ends (sign_of minus') (front_kind us) ends.0 ends.1 f
      go j l vs as' ls us (t ∷ ts) codes biased z h e ends f =
          let s = rest.reads j l vs as' ls us (record { first = t.term; more = ts }) codes biased
          (behind codes next e) ends in
          let sum = given (member lacks' j) (worth (get_or sums j 0)) in (
            ap (λ y. terms_value vs as' (of_both (joined t.sign) y (term_value vs as' t.term)) ts) h
                ∙ ap (λ g. terms_value vs as' (of_both (joined g) sum (term_value vs as' t.term)) ts)
                (sign_same t.sign (sign_of minus') f)
                ∙ s.0,
            s.1,
          )

pub near_more : {m k : ℕ} {lanes : List ℕ} → Near m lanes → m ≤ k → Near k lanes
near_more near h = record {
  most = λ j l. omega (arith, near.most j l);
  least = λ j l. omega (arith, near.least j l);
}

-- an expression from a place, of which the term at another comes next: what is read there is the whole
pub record Open (ks values vars : List ℕ) (at : ℕ) (lanes : List ℕ) (lacks : ℕ) (minus : Bool) (place : ℕ) : Type 0
  where
    pub to : place ≤ length ks
    pub near : Near place lanes
    pub whole : (sums : List ℕ) (lacks' n : ℕ) → RestRead ks values vars minus lanes lacks place sums lacks' n
        → ExprRead ks values vars at sums lacks' n

-- the sum before the first term
start : (j : ℕ) (k : ℕ) → k ≡ 1073741824 → (t : Option ℤ)
    → of_both (joined (sign_of false)) (given (member 0 j) (worth k)) t ≡ t
unfolding of_both
start j k e t =
    ap (λ s. of_both (joined (sign_of false)) s t) (all_there j (worth k) ∙ ap (λ (n : ℕ). some (worth n)) e)
    ∙ of_same (joined (sign_of false) (worth 1073741824)) joined_zero t

module _ {ks values vars : List ℕ} {at : ℕ} where
  pub open_first : at ≤ length ks → Open ks values vars at (replicate 16 1073741824) 0 false at
  unfolding expr_value
  open_first within = record {
    to = within;
    near = record {
      most = λ j l. omega (arith, zero j l);
      least = λ j l. omega (arith, zero j l);
    };
    whole = λ sums lacks n rest. record {
      from = rest.from;
      to = rest.to;
      near = rest.near;
      reads = λ j l vs as' ls us x codes biased e ends.
          let t = rest.reads j l vs as' ls us x codes biased e ends in (
            ap (λ z. terms_value vs as' z x.more)
                (sym (start j (get_or (replicate 16 1073741824) j 0) (zero j l) (term_value vs as' x.first)))
                ∙ t.0,
            t.1,
          );
    };
  }
    where
      zero : (j : ℕ) → j < 16 → ◌≡◌ {A = ℕ} (get_or (replicate 16 1073741824) j 0) 1073741824
      zero j l = get_or-replicate {A = ℕ} 16 j 1073741824 0 l

  module _ {lanes sums : List ℕ} {lacks lacks' : ℕ} {minus : Bool} {place n : ℕ}
      (open' : Open ks values vars at lanes lacks minus place)
      (term : TermRead ks values vars minus lanes lacks place sums lacks' n) where
    pub open_last : (get_or ks n no_kind ≡ kind_of (mark plus) → ⊥) → (get_or ks n no_kind ≡ kind_of (mark token.minus) → ⊥)
        → ExprRead ks values vars at sums lacks' n
    open_last no_plus no_minus = open'.whole sums lacks' n (rest_end minus lanes lacks term no_plus no_minus)

    pub open_more : (minus' : Bool) {r : ℕ} → get_or ks n no_kind ≡ kind_of (mark (sign_mark (sign_of minus'))) → Next ks n r
        → Open ks values vars at sums lacks' minus' r
    open_more minus' {r} kind next = record {
      to = next.to;
      near = subst (λ (k : ℕ). Near k sums) (add-one n ∙ sym (past_sign (sign_of minus') next kind)) term.near;
      whole = λ sums' lacks'' n' rest. open'.whole sums' lacks'' n'
          (rest_more minus lanes lacks term minus' kind next rest);
    }

-- What ends what

comparison_ends : (o : Comparison) (us : List Lexeme) → EndsExpr (mark (comparison_mark o) ∷ us)
unfolding EndsExpr EndsTerm front_kind kind_of mark_number keyword_number comparison_mark
comparison_ends eq us = (eqb-false _ _ refl, eqb-false _ _ refl, eqb-false _ _ refl)
comparison_ends ne us = (eqb-false _ _ refl, eqb-false _ _ refl, eqb-false _ _ refl)
comparison_ends lt us = (eqb-false _ _ refl, eqb-false _ _ refl, eqb-false _ _ refl)
comparison_ends le us = (eqb-false _ _ refl, eqb-false _ _ refl, eqb-false _ _ refl)
comparison_ends gt us = (eqb-false _ _ refl, eqb-false _ _ refl, eqb-false _ _ refl)
comparison_ends ge us = (eqb-false _ _ refl, eqb-false _ _ refl, eqb-false _ _ refl)

and_ends : (us : List Lexeme) → EndsExpr (mark and_and ∷ us)
unfolding EndsExpr EndsTerm front_kind kind_of mark_number keyword_number
and_ends us = (eqb-false _ _ refl, eqb-false _ _ refl, eqb-false _ _ refl)

or_ends : (us : List Lexeme) → EndsConj (mark or_or ∷ us)
unfolding EndsConj EndsExpr EndsTerm front_kind kind_of mark_number keyword_number
or_ends us = ((eqb-false _ _ refl, eqb-false _ _ refl, eqb-false _ _ refl), eqb-false _ _ refl)

pub semicolon_ends : (us : List Lexeme) → EndsExpr (mark semicolon ∷ us)
unfolding EndsExpr EndsTerm front_kind kind_of mark_number keyword_number
semicolon_ends us = (eqb-false _ _ refl, eqb-false _ _ refl, eqb-false _ _ refl)

-- a kind that continues a condition
abbrev continues : ℕ → Bool
continues k =
    eqb k (kind_of (mark plus)) || eqb k (kind_of (mark token.minus)) || eqb k (kind_of (key k_mod))
    || eqb k (kind_of (mark and_and)) || eqb k (kind_of (mark or_or))

-- any other ends it
whole_ends : (us : List Lexeme) (k : ℕ) → front_kind us ≡ k → continues k ≡ false → EndsWhole us
unfolding EndsWhole EndsConj EndsExpr EndsTerm kind_of mark_number keyword_number
whole_ends us k f h = (((other refl, other refl, other refl), other refl), other refl)
  where
    other : {n : ℕ} → continues n ≡ true → front_kind us ≡ n → ⊥
    other t e = true≢false (sym t ∙ ap continues (sym e ∙ f) ∙ h)

pub rparen_ends : (us : List Lexeme) → EndsWhole (mark rparen ∷ us)
unfolding front_kind kind_of mark_number keyword_number
rparen_ends us = whole_ends (mark rparen ∷ us) (kind_of (mark rparen)) refl refl

-- Conditions

module _ {ks values vars : List ℕ} where
  pub compare_reads : {at k r n kind lacks lacks' either : ℕ} {a b : List ℕ} {holds : List Bool}
      → ExprRead ks values vars at a lacks k
      → kind ≡ get_or ks k no_kind → Next ks k r
      → ExprRead ks values vars r b lacks' n
      → ((j : ℕ) → j < 16 → get_or holds j false ≡ test_of kind (get_or a j 0) (get_or b j 0))
      → ((u : ℕ) → member either u ≡ member lacks u || member lacks' u)
      → CompareRead ks values vars at holds either n
  unfolding spell_compared compared_value front_kind kind_of
  compare_reads {k = k} {lacks = lacks} {lacks' = lacks'} {a = a} {b = b} {holds = holds} one is next two tests joins =
      record {
        from = omega (arith, one.from, next.from, two.from);
        to = two.to;
        reads = λ j l vs as' ls us x codes biased e ends.
            let at_one = e
            ∙ append_assoc (spell_expr x.one) (mark (comparison_mark x.by) ∷ spell_expr x.two) us in
            let p = one.reads j l vs as' ls (mark (comparison_mark x.by) ∷ (spell_expr x.two ++ us)) x.one codes
            biased at_one
            (comparison_ends x.by (spell_expr x.two ++ us)) in
            let q = two.reads j l vs as' ls us x.two codes biased (behind codes next p.1) ends in (
              ap (λ z. of_both (compares x.by) z (expr_value vs as' x.two)) p.0
                  ∙ ap (of_both (compares x.by) (given (member lacks j) (worth (get_or a j 0)))) q.0
                  ∙ of_both_lem (compares x.by) (member lacks j) (member lacks' j) (worth (get_or a j 0))
                  (worth (get_or b j 0))
                  ∙ ap (given (member lacks j || member lacks' j))
                  (sym (tests j l ∙ ap (λ (m : ℕ). test_of m (get_or a j 0) (get_or b j 0))
                  (is ∙ sym (front_is codes k refl p.1))
                  ∙ compares_worth x.by (get_or a j 0) (get_or b j 0)))
                  ∙ ap (λ t. given t (get_or holds j false)) (sym (joins j)),
              q.1,
            );
      }

-- what a simple condition begins with
unfoldable pub constant_kind : Bool → ℕ
constant_kind true = kind_of (key k_true)
constant_kind false = kind_of (key k_false)

unfoldable pub first_atom : Term → Atom
first_atom (alone a) = a
first_atom (remainder a b) = a

unfoldable pub simple_kind : Simple → ℕ
simple_kind (negation s) = kind_of (mark bang)
simple_kind (bracketed c) = kind_of (mark lparen)
simple_kind (constant b) = constant_kind b
simple_kind (compare e o f) = atom_kind (first_atom e.first)

atom_front : (a : Atom) (us : List Lexeme) → front_kind (spell_atom a ++ us) ≡ atom_kind a
unfolding front_kind atom_kind spell_atom spell_int kind_of mark_number
atom_front (literal (plain n)) us = refl
atom_front (literal (negated n)) us = refl
atom_front (variable x) us = refl

compare_front : (t : Term) (ts ms us : List Lexeme) → front_kind (((spell_term t ++ ts) ++ ms) ++ us)
    ≡ atom_kind (first_atom t)
unfolding spell_term first_atom
compare_front (alone a) ts ms us = simp append_assoc (atom_front a (ts ++ (ms ++ us)))
compare_front (remainder a b) ts ms us =
    simp append_assoc (atom_front a (key k_mod ∷ (spell_atom b ++ (ts ++ (ms ++ us)))))

simple_front : (s : Simple) (us : List Lexeme) → front_kind (spell_simple s ++ us) ≡ simple_kind s
unfolding front_kind simple_kind constant_kind spell_simple spell_constant spell_expr kind_of mark_number keyword_number
simple_front (negation s) us = refl
simple_front (bracketed c) us = refl
simple_front (constant true) us = refl
simple_front (constant false) us = refl
simple_front (compare e o f) us =
    compare_front e.first (each spell_signed e.more) (mark (comparison_mark o) ∷ spell_expr f) us

not_atom : {A : Type 0} (a : Atom) (k : ℕ) → eqb number_kind k ≡ false → eqb (kind_of (mark token.minus)) k ≡ false
    → eqb name_kind k ≡ false → atom_kind a ≡ k → A
unfolding atom_kind
not_atom (literal (plain n)) k d e f h = apart number_kind k d refl h
not_atom (literal (negated n)) k d e f h = apart (kind_of (mark token.minus)) k e refl h
not_atom (variable x) k d e f h = apart name_kind k f refl h

not_constant : {A : Type 0} (b : Bool) (k : ℕ) → eqb (kind_of (key k_true)) k ≡ false
    → eqb (kind_of (key k_false)) k ≡ false → constant_kind b ≡ k → A
unfolding constant_kind
not_constant true k d e h = apart (kind_of (key k_true)) k d refl h
not_constant false k d e h = apart (kind_of (key k_false)) k e refl h

constant_same : (a b : Bool) → constant_kind a ≡ constant_kind b → a ≡ b
unfolding constant_kind kind_of mark_number keyword_number
constant_same true true e = refl
constant_same true false e = apart (kind_of (key k_true)) (kind_of (key k_false)) refl refl e
constant_same false true e = apart (kind_of (key k_false)) (kind_of (key k_true)) refl refl e
constant_same false false e = refl

constant_apart : {A : Type 0} (b : Bool) (k : ℕ) → eqb k (kind_of (key k_true)) ≡ false
    → eqb k (kind_of (key k_false)) ≡ false → k ≡ constant_kind b → A
unfolding constant_kind
constant_apart true k d e h = apart k (kind_of (key k_true)) d refl h
constant_apart false k d e h = apart k (kind_of (key k_false)) e refl h

atom_constant : {A : Type 0} (a : Atom) (b : Bool) → atom_kind a ≡ constant_kind b → A
unfolding constant_kind kind_of mark_number keyword_number
atom_constant a true h = not_atom a (kind_of (key k_true)) refl refl refl h
atom_constant a false h = not_atom a (kind_of (key k_false)) refl refl refl h

constant_spelled : (b : Bool) (us : List Lexeme) → (l : Lexeme) × (spell_constant b ++ us ≡ l ∷ us)
unfolding spell_constant
constant_spelled true us = (key k_true, refl)
constant_spelled false us = (key k_false, refl)

module _ {ks values vars : List ℕ} where
  pub simple_not : {at r n lacks : ℕ} {holds turned : List Bool} → get_or ks at no_kind ≡ kind_of (mark bang)
      → Next ks at r → SimpleRead ks values vars r holds lacks n
      → ((j : ℕ) → j < 16 → get_or turned j false ≡ not (get_or holds j false))
      → SimpleRead ks values vars at turned lacks n
  unfolding spell_simple simple_value simple_kind kind_of mark_number keyword_number
  simple_not {at} {r} {n} {lacks} {holds} {turned} kind next simple turns = record {
    from = omega (arith, next.from, simple.from);
    to = simple.to;
    reads = λ j l vs as' ls us x codes biased e ends. go j l vs as' ls us x codes biased e ends
        (sym (simple_front x us) ∙ front_is codes at kind e);
  }
    where
      go : (j : ℕ) → j < 16 → (vs : List Var) (as' : List ℤ) (ls us : List Lexeme) (x : Simple) → Codes vs ls ks values
          → Biased vs as' (lane vars j)
          → drop at ls ≡ spell_simple x ++ us → EndsExpr us → simple_kind x ≡ kind_of (mark bang)
          → (simple_value x vs as' ≡ given (member lacks j) (get_or turned j false)) × (drop n ls ≡ us)
      go j l vs as' ls us (negation s) codes biased e ends f =
          let t = simple.reads j l vs as' ls us s codes biased (behind codes next e) ends in (
            ap (of_one not) t.0 ∙ of_one_lem not (member lacks j) (get_or holds j false)
                ∙ ap (given (member lacks j)) (sym (turns j l)),
            t.1,
          )
      go j l vs as' ls us (bracketed c) codes biased e ends f =
          apart (kind_of (mark lparen)) (kind_of (mark bang)) refl refl f
      go j l vs as' ls us (constant b) codes biased e ends f = not_constant b (kind_of (mark bang)) refl refl f
      go j l vs as' ls us (compare a o b) codes biased e ends f =
          not_atom (first_atom a.first) (kind_of (mark bang)) refl refl refl f

  pub simple_bracketed : {at r k n lacks : ℕ} {holds : List Bool} → get_or ks at no_kind ≡ kind_of (mark lparen)
      → Next ks at r → CondRead ks values vars r holds lacks k → Next ks k n
      → SimpleRead ks values vars at holds lacks n
  unfolding spell_simple simple_value simple_kind kind_of mark_number keyword_number
  simple_bracketed {at} {r} {k} {n} {lacks} {holds} kind next whole last = record {
    from = omega (arith, next.from, whole.from, last.from);
    to = last.to;
    reads = λ j l vs as' ls us x codes biased e ends. go j l vs as' ls us x codes biased e
        (sym (simple_front x us) ∙ front_is codes at kind e);
  }
    where
      go : (j : ℕ) → j < 16 → (vs : List Var) (as' : List ℤ) (ls us : List Lexeme) (x : Simple) → Codes vs ls ks values
          → Biased vs as' (lane vars j)
          → drop at ls ≡ spell_simple x ++ us → simple_kind x ≡ kind_of (mark lparen)
          → (simple_value x vs as' ≡ given (member lacks j) (get_or holds j false)) × (drop n ls ≡ us)
      go j l vs as' ls us (negation s) codes biased e f = apart (kind_of (mark bang)) (kind_of (mark lparen)) refl refl f
      go j l vs as' ls us (bracketed c) codes biased e f =
          let t = whole.reads j l vs as' ls (mark rparen ∷ us) c codes biased
          (behind codes next e ∙ append_assoc (spell_cond c) (mark rparen ∷ []) us) (rparen_ends us) in
          (t.0, behind codes last t.1)
      go j l vs as' ls us (constant b) codes biased e f = not_constant b (kind_of (mark lparen)) refl refl f
      go j l vs as' ls us (compare a o b) codes biased e f =
          not_atom (first_atom a.first) (kind_of (mark lparen)) refl refl refl f

  pub simple_constant : (h : Bool) {at n : ℕ} → get_or ks at no_kind ≡ constant_kind h → Next ks at n
      → SimpleRead ks values vars at (replicate 16 h) 0 n
  unfolding spell_simple simple_value simple_kind kind_of mark_number keyword_number
  simple_constant h {at} {n} kind next = record {
    from = next.from;
    to = next.to;
    reads = λ j l vs as' ls us x codes biased e ends.
        let t = go vs as' ls us x codes e (sym (simple_front x us) ∙ front_is codes at kind e) in
        (t.0 ∙ sym (all_there j h) ∙ ap (given (member 0 j)) (sym (get_or-replicate 16 j h false l)), t.1);
  }
    where
      go : (vs : List Var) (as' : List ℤ) (ls us : List Lexeme) (x : Simple) → Codes vs ls ks values
          → drop at ls ≡ spell_simple x ++ us → simple_kind x ≡ constant_kind h
          → (simple_value x vs as' ≡ some h) × (drop n ls ≡ us)
      go vs as' ls us (negation s) codes e f = constant_apart h (kind_of (mark bang)) refl refl f
      go vs as' ls us (bracketed c) codes e f = constant_apart h (kind_of (mark lparen)) refl refl f
      go vs as' ls us (constant b) codes e f =
          (ap some (constant_same b h f), behind codes next (e ∙ (constant_spelled b us).1))
      go vs as' ls us (compare a o b) codes e f = atom_constant (first_atom a.first) h f

  pub simple_compare : {at n lacks : ℕ} {holds : List Bool} → (get_or ks at no_kind ≡ kind_of (mark bang) → ⊥)
      → (get_or ks at no_kind ≡ kind_of (mark lparen) → ⊥) → (get_or ks at no_kind ≡ kind_of (key k_true) → ⊥)
      → (get_or ks at no_kind ≡ kind_of (key k_false) → ⊥) → CompareRead ks values vars at holds lacks n
      → SimpleRead ks values vars at holds lacks n
  unfolding spell_simple simple_value simple_kind constant_kind spell_compared compared_value
  simple_compare {at} {n} {lacks} {holds} no_not no_bracket no_true no_false two = record {
    from = two.from;
    to = two.to;
    reads = λ j l vs as' ls us x codes biased e ends. go j l vs as' ls us x codes biased e ends
        (sym (front_is codes at refl e) ∙ simple_front x us);
  }
    where
      go : (j : ℕ) → j < 16 → (vs : List Var) (as' : List ℤ) (ls us : List Lexeme) (x : Simple) → Codes vs ls ks values
          → Biased vs as' (lane vars j)
          → drop at ls ≡ spell_simple x ++ us → EndsExpr us → get_or ks at no_kind ≡ simple_kind x
          → (simple_value x vs as' ≡ given (member lacks j) (get_or holds j false)) × (drop n ls ≡ us)
      go j l vs as' ls us (negation s) codes biased e ends f = absurd (no_not f)
      go j l vs as' ls us (bracketed c) codes biased e ends f = absurd (no_bracket f)
      go j l vs as' ls us (constant true) codes biased e ends f = absurd (no_true f)
      go j l vs as' ls us (constant false) codes biased e ends f = absurd (no_false f)
      go j l vs as' ls us (compare a o b) codes biased e ends f =
          two.reads j l vs as' ls us (record { one = a; by = o; two = b }) codes biased e ends

-- Conjunctions and conditions are chains: items joined by a mark

pub record Chain {X Y : Type 0} (spell_x : X → List Lexeme) (EndsX : List Lexeme → Type 0) (means_x : X → List Var → List ℤ
    → Option Bool)
    (spell_y : Y → List Lexeme) (EndsY : List Lexeme → Type 0) (means_y : Y → List Var → List ℤ → Option Bool)
    (m : Mark) (op : Bool → Bool → Bool) (unit : Bool) : Type 0 where
  -- one item, or an item, the mark and a chain
  split :
      (y : Y)
      → ((x : X) × (spell_y y ≡ spell_x x) × (means_y y ≡ means_x x))
      ⊎ ((x : X) × (z : Y) × (spell_y y ≡ spell_x x ++ (mark m ∷ spell_y z))
      × ((vs : List Var) (as' : List ℤ) → means_y y vs as' ≡ of_both op (means_x x vs as') (means_y z vs as')))
  item_ends : (us : List Lexeme) → EndsY us → EndsX us
  no_mark : (us : List Lexeme) → EndsY us → front_kind us ≡ kind_of (mark m) → ⊥
  mark_ends : (us : List Lexeme) → EndsX (mark m ∷ us)
  unit_first : (b : Bool) → op unit b ≡ b
  assoc : (a b c : Bool) → op (op a b) c ≡ op a (op b c)

pub conj_chain : Chain spell_simple EndsExpr simple_value spell_conj EndsConj conj_value and_and ◌&&◌ true
unfolding spell_conj conj_value EndsConj mark_number
conj_chain = record {
  split = elim [ just s ↦ inl (s, refl, refl) | and s c ↦ inr (s, c, refl, λ vs as'. refl) ];
  item_ends = λ us ends. ends.0;
  no_mark = λ us ends. ends.1;
  mark_ends = and_ends;
  unit_first = λ b. refl;
  assoc = elim [ true ↦ λ b c. refl | false ↦ λ b c. refl ];
}

pub cond_chain : Chain spell_conj EndsConj conj_value spell_cond EndsWhole cond_value or_or ◌||◌ false
unfolding spell_cond cond_value EndsWhole mark_number
cond_chain = record {
  split = elim [ only c ↦ inl (c, refl, refl) | or c d ↦ inr (c, d, refl, λ vs as'. refl) ];
  item_ends = λ us ends. ends.0;
  no_mark = λ us ends. ends.1;
  mark_ends = or_ends;
  unit_first = λ b. refl;
  assoc = elim [ true ↦ λ b c. refl | false ↦ λ b c. refl ];
}

-- a chain from a place, of which the item at another comes next: what is read there, joined with what is held, is the
-- whole
pub record Linked {Y : Type 0} (spell_y : Y → List Lexeme) (EndsY : List Lexeme → Type 0) (means_y : Y → List Var → List ℤ
    → Option Bool)
    (op : Bool → Bool → Bool) (ks values vars : List ℕ) (at : ℕ) (holds : List Bool) (lacks place : ℕ) : Type 0 where
  pub from : at ≤ place
  pub to : place ≤ length ks
  pub whole :
      (j : ℕ) → j < 16 → (vs : List Var) (as' : List ℤ) (ls us : List Lexeme) (y : Y) → Codes vs ls ks values
      → Biased vs as' (lane vars j)
      → drop at ls ≡ spell_y y ++ us → EndsY us
      → (z : Y) × (means_y y vs as' ≡ of_both op (given (member lacks j) (get_or holds j false)) (means_y z vs as'))
      × (drop place ls ≡ spell_y z ++ us)

module _ {X Y : Type 0} {spell_x : X → List Lexeme} {EndsX : List Lexeme → Type 0} {means_x : X → List Var → List ℤ
    → Option Bool}
    {spell_y : Y → List Lexeme} {EndsY : List Lexeme → Type 0} {means_y : Y → List Var → List ℤ → Option Bool} {m : Mark}
    {op : Bool → Bool → Bool} {unit : Bool}
    (chain : Chain spell_x EndsX means_x spell_y EndsY means_y m op unit) {ks values vars : List ℕ} where
  -- before the first item
  pub chain_first : {at : ℕ} → at ≤ length ks → Linked spell_y EndsY means_y op ks values vars at (replicate 16 unit) 0 at
  unfolding of_both
  chain_first within = record {
    from = omega arith;
    to = within;
    whole = λ j l vs as' ls us y codes biased e ends. (y, sym (start j l (means_y y vs as')), e);
  }
    where
      start : (j : ℕ) → j < 16 → (t : Option Bool)
          → of_both op (given (member 0 j) (get_or (replicate 16 unit) j false)) t ≡ t
      start j l t =
          ap (λ s. of_both op s t) (all_there j (get_or (replicate 16 unit) j false) ∙ ap some (get_or-replicate 16 j unit false l))
          ∙ of_same (op unit) chain.unit_first t

  module _ {at n place lacks lacks' either : ℕ} {holds holds' both : List Bool}
      (linked : Linked spell_y EndsY means_y op ks values vars at holds lacks place)
      (item : Truths spell_x EndsX means_x ks values vars place holds' lacks' n)
      (joins : (j : ℕ) → j < 16 → get_or both j false ≡ op (get_or holds j false) (get_or holds' j false))
      (lack : (u : ℕ) → member either u ≡ member lacks u || member lacks' u) where
    -- no mark behind the item
    pub chain_last : (get_or ks n no_kind ≡ kind_of (mark m) → ⊥) → Truths spell_y EndsY means_y ks values vars at both either n
    unfolding front_kind kind_of
    chain_last none = record {
      from = omega (arith, linked.from, item.from);
      to = item.to;
      reads = λ j l vs as' ls us y codes biased e ends.
          let (z, means, here) = linked.whole j l vs as' ls us y codes biased e ends in
          ⊎_elim
          (λ t. let one = item.reads j l vs as' ls us t.0 codes biased (here ∙ ap (λ z. z ++ us) t.1)
          (chain.item_ends us ends) in (
            means ∙ ap (of_both op (given (member lacks j) (get_or holds j false))) (ap (λ f. f vs as') t.2 ∙ one.0)
                ∙ of_both_lem op (member lacks j) (member lacks' j) (get_or holds j false) (get_or holds' j false)
                ∙ given_as (sym (lack j)) (sym (joins j l)),
            one.1,
          ))
          (λ t. let one = item.reads j l vs as' ls (mark m ∷ (spell_y t.1 ++ us)) t.0 codes biased
          (here ∙ ap (λ z. z ++ us) t.2 ∙ append_assoc (spell_x t.0) (mark m ∷ spell_y t.1) us)
          (chain.mark_ends (spell_y t.1 ++ us)) in
          absurd (none (sym (front_is codes n refl one.1))))
          (chain.split z);
    }

    -- the mark, and more behind it
    pub chain_more : {r : ℕ} → get_or ks n no_kind ≡ kind_of (mark m) → Next ks n r
        → Linked spell_y EndsY means_y op ks values vars at both either r
    chain_more kind next = record {
      from = omega (arith, linked.from, item.from, next.from);
      to = next.to;
      whole = λ j l vs as' ls us y codes biased e ends.
          let (z, means, here) = linked.whole j l vs as' ls us y codes biased e ends in
          ⊎_elim
          (λ t. let one = item.reads j l vs as' ls us t.0 codes biased (here ∙ ap (λ z. z ++ us) t.1)
          (chain.item_ends us ends) in
          absurd (chain.no_mark us ends (front_is codes n kind one.1)))
          (λ t. let one = item.reads j l vs as' ls (mark m ∷ (spell_y t.1 ++ us)) t.0 codes biased
          (here ∙ ap (λ z. z ++ us) t.2 ∙ append_assoc (spell_x t.0) (mark m ∷ spell_y t.1) us)
          (chain.mark_ends (spell_y t.1 ++ us)) in (
            t.1,
            means ∙ ap (of_both op (given (member lacks j) (get_or holds j false)))
                (t.3 vs as' ∙ ap (λ z. of_both op z (means_y t.1 vs as')) one.0)
                ∙ of_chain op chain.assoc (member lacks j) (member lacks' j) (get_or holds j false)
                (get_or holds' j false) (means_y t.1 vs as')
                ∙ ap (λ s. of_both op s (means_y t.1 vs as')) (given_as (sym (lack j)) (sym (joins j l))),
            behind codes next one.1,
          ))
          (chain.split z);
    }

-- what stands behind a condition in a file ends it
pub condition_ends : (us : List Lexeme) → EndsCond us → EndsWhole us
unfolding EndsCond front_kind kind_of mark_number keyword_number
condition_ends us t =
    ⊎_elim (λ h. whole_ends us (kind_of (mark rparen)) (ap front_kind t.2 ∙ h) refl)
    (λ h. whole_ends us (kind_of (mark semicolon)) (ap front_kind t.2 ∙ h) refl) t.3

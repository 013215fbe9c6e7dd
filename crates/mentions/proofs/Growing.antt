-- What a loop makes: a set with one member more, by number or by the slot of a token;
-- and that a set with no member is 0.
use Prim.Native.Nat.{ℕ, ◌+◌, ◌^◌, ◌<◌}
use native.Mathlib.Omega.{arith}
use native.Mathlib.Decide.{dec_lt}
use mathlib.Core.Path.{◌≡◌, refl, sym, ap, ◌∙◌}
use mathlib.Core.Bool.{Bool, true, false, not, ◌&&◌, ◌||◌, and-false}
use mathlib.Core.List.{List}
use lib.ListN.{get_or, set}
use lib.Dec.{eqb, ltb}
use borrow.Author.Tests.{eqb-true, eq-eqb, ne_eqb, lt-ltb, le-ltb}
use Rattle.sets.specs.Set.{member}
use Rattle.sets.proofs.SetLaws.{member_none, member_past, same_members}
use Rattle.logic.specs.Tests.{any}
use Rattle.logic.proofs.Bools.{split, split_eq, is_true_lem, clash}
use Rattle.logic.proofs.Any.{any_intro, any_false, any_next}
use Rattle.mentions.specs.Gathered.{counts_at, mentions_at, gathered}

-- of the numbers below n those that pass a test
abbrev pub Upto : ℕ → (ℕ → Bool) → ℕ → Type 0
Upto n f set = (u : ℕ) → member set u ≡ (ltb u n && f u)

pub upto_none : (f : ℕ → Bool) → Upto 0 f 0
upto_none f u = member_none u ∙ ap (λ (b : Bool). b && f u) (sym (le-ltb u 0 (omega arith)))

-- below n + 1 are n, and what is below n
next_test : (u n : ℕ) → (u ≡ n → ⊥) → ltb u (n + 1) ≡ ltb u n
next_test u n e = elim (dec_lt u n) [
  | yes h ↦ lt-ltb u (n + 1) (omega arith) ∙ sym (lt-ltb u n h)
  | no h ↦ le-ltb u (n + 1) (omega arith) ∙ sym (le-ltb u n (omega arith))
]

module _ (n : ℕ) (f : ℕ → Bool) (old : ℕ) (so_far : Upto n f old) where
  pub upto_over : f n ≡ false → Upto (n + 1) f old
  upto_over off u =
      split_eq u n
      (λ e. let fails : f u ≡ false = ap f e ∙ off in
      so_far u ∙ rw fails (and-false (ltb u n) ∙ sym (and-false (ltb u (n + 1)))))
      (λ e. so_far u ∙ ap (λ (b : Bool). b && f u) (sym (next_test u n e)))

  pub upto_more : (r : ℕ) → n < 16 → f n ≡ true → ((u : ℕ) → member r u ≡ (eqb u n && ltb n 16) || member old u)
      → Upto (n + 1) f r
  upto_more r few on grown u =
      split_eq u n
      (λ e. let here : f u ≡ true = ap f e ∙ on in
      grown u ∙ rw (eq-eqb u n e, lt-ltb n 16 few, lt-ltb u (n + 1) (omega arith), here))
      (λ e. grown u ∙ rw (ne_eqb u n e, next_test u n e) (so_far u))

-- a set is 0 where no number passes the test that its members pass
pub some_member : (s : ℕ) (f : ℕ → Bool) → s < 2 ^ 16 → ((k : ℕ) → k < 16 → member s k ≡ f k)
    → not (eqb s 0) ≡ any 16 f
some_member s f few told =
    split_eq s 0
    (λ e. rw (eq-eqb s 0 e) (sym (any_false 16 f
    (λ k h. sym (told k h) ∙ ap (λ (n : ℕ). member n k) e ∙ member_none k))))
    (λ n. rw (ne_eqb s 0 n) (sym (is_true_lem (λ off. n (same_members 16 s 0 few (omega arith) (λ k.
    elim (dec_lt k 16) [
      | yes h ↦ told k h ∙ is_off k h off ∙ sym (member_none k)
      | no h ↦ member_past 16 s k few (omega arith) ∙ sym (member_none k)
    ]))))))
  where
    is_off : (k : ℕ) → k < 16 → any 16 f ≡ false → f k ≡ false
    is_off k h off = split (f k) (λ on. clash (any_intro 16 f k h on) off) (λ q. q)

-- The slots of some tokens, and of one more

join : (p q l a : Bool) → (p ≡ true → q ≡ l) → (p && q) || (l && a) ≡ l && (p || a)
join true q true a same = rw (same refl)
join true q false a same = rw (same refl)
join false q l a same = refl

module _ (kinds values : List ℕ) (left : Bool) (from : ℕ) where
  pub gather_none : (k : ℕ) → member 0 k ≡ gathered kinds left values from 0 k
  unfolding gathered any
  gather_none k = member_none k ∙ sym (and-false (ltb k 16))

  module _ (n i old : ℕ) (here : i ≡ from + n) (so_far : (k : ℕ) → member old k ≡ gathered kinds left values from n k)
    where
      pub gather_over : counts_at kinds left i ≡ false → (k : ℕ)
          → member old k ≡ gathered kinds left values from (n + 1) k
      unfolding gathered mentions_at
      gather_over off k = so_far k ∙ rw (any_next, ← here, off)

      pub gather_more : (r slot : ℕ) → counts_at kinds left i ≡ true → slot ≡ get_or values i 0
          → ((u : ℕ) → member r u ≡ (eqb u slot && ltb slot 16) || member old u)
          → (k : ℕ) → member r k ≡ gathered kinds left values from (n + 1) k
      unfolding gathered mentions_at
      gather_more r slot on is grown k =
          grown k ∙ rw (any_next, ← here, on, ← is, so_far k)
          (join (eqb k slot) (ltb slot 16) (ltb k 16) _ (λ e. ap (λ (j : ℕ). ltb j 16) (sym (eqb-true k slot e))))

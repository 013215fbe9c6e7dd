-- What a reader of a part of the grammar does on every list of lexemes shorter than a bound,
-- and the laws that carry it through the combinators of `Reading`.
use Prim.Native.Nat.{ℕ, zero, suc, ◌+◌, ◌≤◌, ◌<◌}
use native.Mathlib.Omega.{arith}
use mathlib.Core.Path.{◌≡◌, refl, sym, ap, subst, ◌∙◌}
use mathlib.Core.Bool.{Bool, true, false, false≢true}
use mathlib.Core.Logic.{◌⊎◌, inl, inr, ⊎_elim}
use mathlib.Core.Option.{Option, none, some}
use mathlib.Core.List.{List, [], ◌∷◌, ◌++◌, append-nil, append_assoc, append_cancel_right}
use lib.ListN.{length, length-append}
use Rattle.syntax.specs.Token.{Lexeme}
use Rattle.syntax.specs.Spelling.{Spellable, AllSpellable}
use Rattle.syntax.specs.Tree.{each, Some, all}
use Rattle.syntax.specs.Decide.Reading.{Got, got, stuck, Reader, onwards, ◌>>=◌, give, begins, rest, choose}
use Rattle.syntax.specs.Decide.Reading.{expect, read_many, read_some}
use Rattle.syntax.proofs.Spellable.{both_spellable}
use Rattle.logic.proofs.Bools.{split}

-- what the trees of a part spell: an index, and for each its tree and its word
pub record Words (A : Type 0) : Type 1 where
  pub index : Type 0
  pub value : index → A
  pub word : index → List Lexeme

-- all trees of a type
abbrev pub of : {A : Type 0} → (A → List Lexeme) → Words A
of {A} s = record { index = A; value = λ a. a; word = s }

-- one tree, by no lexeme
abbrev pub bare : {A : Type 0} → A → Words A
bare a = record { index = Unit {0}; value = λ _. a; word = λ _. [] }

-- a lexeme in front
infixr 60 ◌▹◌
abbrev pub ◌▹◌ : {A : Type 0} → Lexeme → Words A → Words A
l ▹ W = record { index = W.index; value = W.value; word = λ i. l ∷ W.word i }

-- another tree for each
abbrev pub turned : {A B : Type 0} → (A → B) → Words A → Words B
turned g W = record { index = W.index; value = λ i. g (W.value i); word = W.word }

-- one part, then another
abbrev pub chain : {A B : Type 0} → Words A → (A → Words B) → Words B
chain W U = record {
  index = (i : W.index) × (U (W.value i)).index;
  value = λ x. (U (W.value x.0)).value x.1;
  word = λ x. W.word x.0 ++ (U (W.value x.0)).word x.1;
}

-- one part or another
abbrev pub either : {A : Type 0} → Words A → Words A → Words A
either W U = record {
  index = W.index ⊎ U.index;
  value = ⊎_elim W.value U.value;
  word = ⊎_elim W.word U.word;
}

-- what is asked of what follows a word, which may be nothing
abbrev pub Follow : Type 1
Follow = List Lexeme → Type 0

abbrev pub anything : Follow
anything _ = Unit {0}

-- an answer, with what is left
abbrev pub said : {A : Type 0} → Option A → List Lexeme → Got A
said none us = stuck us
said (some a) us = got a us

-- the lexeme in front
abbrev pub front : List Lexeme → List Lexeme
front [] = []
front (l ∷ ls) = l ∷ []

-- A reader r of words, where F holds of what follows them, on lists shorter than n; r' is the same reader with more
-- fuel.
pub record Phrase {A : Type 0} (W : Words A) (F : Follow) (n : ℕ) (r r' : Reader A) : Type 0 where
  pub witness : W.index
  pub spells : AllSpellable (W.word witness)
  -- it reads words only
  pub sound : (ls : List Lexeme) (a : A) (us : List Lexeme) → length ls < n → r ls ≡ got a us
      → (i : W.index) × (a ≡ W.value i) × (ls ≡ W.word i ++ us)
  -- it reads every word
  pub complete : (i : W.index) (us : List Lexeme) → F us → length (W.word i ++ us) < n → r (W.word i ++ us)
      ≡ got (W.value i) us
  -- where it is stuck a word goes on, by lexemes that bytes spell
  pub prefix : (ls us : List Lexeme) → length ls < n → r ls ≡ stuck us
      → (pre : List Lexeme) × (ls ≡ pre ++ us) × (i : W.index) × (more : List Lexeme) × (W.word i ≡ pre ++ more)
      × AllSpellable more
  -- of what it leaves it sees one lexeme
  pub local : (o : Option A) (pre us us' : List Lexeme) → front us ≡ front us' → length (pre ++ us) < n
      → length (pre ++ us') < n
      → r (pre ++ us) ≡ said o us → r (pre ++ us') ≡ said o us'
  -- more fuel changes nothing
  pub agree : (ls : List Lexeme) → length ls < n → r ls ≡ r' ls

got_stuck {ℓ} : {C : Type ℓ} {A : Type 0} {a : A} {us vs : List Lexeme} → got a us ≡ stuck vs → C
got_stuck e = let z : ◌≡◌ {A = ℕ} 0 1 = cc in absurd (omega arith)

same_front : (pre us us' : List Lexeme) → front us ≡ front us' → front (pre ++ us) ≡ front (pre ++ us')
same_front [] us us' h = h
same_front (l ∷ pre) us us' h = refl

-- no list is shorter than nothing
pub vacuous : {A : Type 0} {W : Words A} {F : Follow} {n : ℕ} {r r' : Reader A} → n ≡ 0 → (i : W.index)
    → AllSpellable (W.word i) → Phrase W F n r r'
vacuous z i s = record {
  witness = i;
  spells = s;
  sound = λ ls a us h e. absurd (omega arith);
  complete = λ i us f h. absurd (omega arith);
  prefix = λ ls us h e. absurd (omega arith);
  local = λ o pre us us' f h h' e. absurd (omega arith);
  agree = λ ls h. absurd (omega arith);
}

-- a smaller bound
within : {A : Type 0} {W : Words A} {F : Follow} {n m : ℕ} {r r' : Reader A} → m ≤ n → Phrase W F n r r'
    → Phrase W F m r r'
within le p = record {
  witness = p.witness;
  spells = p.spells;
  sound = λ ls a us h e. p.sound ls a us (omega arith) e;
  complete = λ i us f h. p.complete i us f (omega arith);
  prefix = λ ls us h e. p.prefix ls us (omega arith) e;
  local = λ o pre us us' f h h' e. p.local o pre us us' f (omega arith) (omega arith) e;
  agree = λ ls h. p.agree ls (omega arith);
}

-- less may follow
pub followed : {A : Type 0} {W : Words A} {F G : Follow} {n : ℕ} {r r' : Reader A}
    → ((us : List Lexeme) → G us → F us) → Phrase W F n r r' → Phrase W G n r r'
followed less p = record {
  witness = p.witness;
  spells = p.spells;
  sound = p.sound;
  complete = λ i us g h. p.complete i us (less us g) h;
  prefix = p.prefix;
  local = p.local;
  agree = p.agree;
}

-- the same trees and words, indexed otherwise
Same : {A : Type 0} → Words A → Words A → Type 0
Same W U = (i : W.index) → (j : U.index) × (W.value i ≡ U.value j) × (W.word i ≡ U.word j)

reword : {A : Type 0} {W U : Words A} {F : Follow} {n : ℕ} {r r' : Reader A}
    → Same W U → Same U W → Phrase W F n r r' → Phrase U F n r r'
unfolding Same
reword {F = F} {n = n} {r = r} there back p = record {
  witness = (there p.witness).0;
  spells = subst AllSpellable (there p.witness).2 p.spells;
  sound = λ ls a us h e.
      let s = p.sound ls a us h e in
      let t = there s.0 in
      (t.0, s.1 ∙ t.1, rw t.2 at s.2);
  complete = λ j us f h.
      let t = back j in
      rw (t.1, t.2) (p.complete t.0 us f (rw t.2 at h));
  prefix = λ ls us h e.
      let s = p.prefix ls us h e in
      let t = there s.2 in
      (s.0, s.1, t.0, s.3, sym t.2 ∙ s.4, s.5);
  local = p.local;
  agree = p.agree;
}

-- what holds at every index, shown by the index's shape
pub record Every {I : Type 0} (P : I → Type 0) : Type 0 where
  pub at : (i : I) → P i

pub every : {I : Type 0} {P : I → Type 0} → ((i : I) → P i) → Every P
every h = record { at = h }

pub pairs : {I : Type 0} {J : I → Type 0} {P : (i : I) × J i → Type 0} → ((i : I) → Every (λ (j : J i). P (i, j)))
    → Every P
pairs h = record { at = λ x. (h x.0).at x.1 }

pub cases : {I J : Type 0} {P : I ⊎ J → Type 0} → Every (λ (i : I). P (inl i)) → Every (λ (j : J). P (inr j)) → Every P
cases h k = record { at = elim [ inl i ↦ h.at i | inr j ↦ k.at j ] }

-- an equation that holds by computing
pub exact : {I A : Type 0} {f : I → A} → Every (λ i. f i ≡ f i)
exact = every λ i. refl

-- all trees of a type, by their spelling
pub spelled : {A : Type 0} {W : Words A} {F : Follow} {n : ℕ} {r r' : Reader A} {s : A → List Lexeme}
    → Phrase W F n r r' → Every (λ (i : W.index). W.word i ≡ s (W.value i))
    → ((a : A) → (i : W.index) × (W.value i ≡ a))
    → Phrase (of s) F n r r'
unfolding Same
spelled {W = W} {s = s} p word back =
    reword (λ i. (W.value i, refl, word.at i)) (λ a. let b = back a in
    (b.0, sym b.1, sym (word.at b.0 ∙ ap s b.1))) p

-- Laws of the combinators

-- nothing is read
pub gives : {A : Type 0} {F : Follow} {n : ℕ} (a : A) → Phrase (bare a) F n (give a) (give a)
unfolding give
gives {A} a = record {
  witness = tt;
  spells = tt;
  sound = λ ls b us h e. (tt, cc, cc);
  complete = λ i us f h. refl;
  prefix = λ ls us h e. got_stuck e;
  local = λ o pre us us' f h h' e. keeps o pre us us' e;
  agree = λ ls h. refl;
}
  where
    keeps : (o : Option A) (pre us us' : List Lexeme) → got a (pre ++ us) ≡ said o us → got a (pre ++ us') ≡ said o us'
    keeps none pre us us' e = got_stuck e
    keeps (some b) pre us us' e =
        let q : pre ≡ [] = append_cancel_right pre [] us (cc) in
        rw q (cc)

-- one reader, then another: the words of the first leave enough of the bound, and what the second reads may follow them
module _ {A B : Type 0} {W : Words A} {U : A → Words B} {F G : Follow} {n m : ℕ} {r r' : Reader A} {f f' : A → Reader B}
    (p : Phrase W F n r r') (q : (a : A) → Phrase (U a) G m (f a) (f' a))
    (room : (i : W.index) → n ≤ length (W.word i) + m)
    (joins : (i : W.index) (j : (U (W.value i)).index) (us : List Lexeme) → G us → F ((U (W.value i)).word j ++ us))
  where
    shorter : (i : W.index) (ls vs : List Lexeme) → ls ≡ W.word i ++ vs → length ls < n → length vs < m
    shorter i ls vs e h = omega (arith, room i, simp length-append at (ap length e))

    -- what is left is an end of what was read
    end_of : (a : A) (o : Option B) (ls us : List Lexeme) → length ls < m → f a ls ≡ said o us
        → (pre : List Lexeme) × (ls ≡ pre ++ us)
    end_of a none ls us h e = let s = (q a).prefix ls us h e in (s.0, s.1)
    end_of a (some b) ls us h e = let s = (q a).sound ls b us h e in ((U a).word s.0, s.2)

    chain_sound : (ls : List Lexeme) (b : B) (us : List Lexeme) → length ls < n → (g : Got A) → r ls ≡ g
        → onwards g f ≡ got b us
        → (x : (chain W U).index) × (b ≡ (chain W U).value x) × (ls ≡ (chain W U).word x ++ us)
    unfolding onwards
    chain_sound ls b us h (stuck vs) d e = got_stuck (sym e)
    chain_sound ls b us h (got a vs) d e =
        let s = p.sound ls a vs h d in
        let i = s.0 in
        let t = (q (W.value i)).sound vs b us (shorter i ls vs s.2 h) (rw s.1 at e) in
        ((i, t.0), t.1, s.2 ∙ ap (λ (x : List Lexeme). W.word i ++ x) t.2 ∙ sym (append_assoc (W.word i) _ us))

    chain_prefix : (ls us : List Lexeme) → length ls < n → (g : Got A) → r ls ≡ g → onwards g f ≡ stuck us
        → (pre : List Lexeme) × (ls ≡ pre ++ us) × (x : (chain W U).index) × (more : List Lexeme)
        × ((chain W U).word x ≡ pre ++ more) × AllSpellable more
    unfolding onwards
    chain_prefix ls us h (stuck vs) d e =
        let s = p.prefix ls us h (cc) in
        let i = s.2 in
        let k = q (W.value i) in
        let w = (U (W.value i)).word k.witness in
        (s.0, s.1, (i, k.witness), s.3 ++ w, rw (s.4, append_assoc), both_spellable s.3 w s.5 k.spells)
    chain_prefix ls us h (got a vs) d e =
        let s = p.sound ls a vs h d in
        let i = s.0 in
        let t = (q (W.value i)).prefix vs us (shorter i ls vs s.2 h) (rw s.1 at e) in (
          W.word i ++ t.0,
          s.2 ∙ ap (λ (x : List Lexeme). W.word i ++ x) t.1 ∙ sym (append_assoc (W.word i) t.0 us),
          (i, t.2),
          t.3,
          ap (λ (x : List Lexeme). W.word i ++ x) t.4 ∙ sym (append_assoc (W.word i) t.0 t.3),
          t.5,
        )

    chain_complete : (x : (chain W U).index) (us : List Lexeme) → G us → length ((chain W U).word x ++ us) < n
        → (r >>= f) ((chain W U).word x ++ us) ≡ got ((chain W U).value x) us
    unfolding ◌>>=◌ onwards
    chain_complete x us g h =
        let i = x.0 in
        let j = x.1 in
        let v = (U (W.value i)).word j ++ us in
        let e : W.word i ++ (U (W.value i)).word j ++ us ≡ W.word i ++ v =
        append_assoc (W.word i) ((U (W.value i)).word j) us in
        rw (e, p.complete i v (joins i j us g) (rw e at h)) ((q (W.value i)).complete j us g (shorter i _ v e h))

    chain_local : (o : Option B) (pre us us' : List Lexeme) → front us ≡ front us' → length (pre ++ us) < n
        → length (pre ++ us') < n
        → (g : Got A) → r (pre ++ us) ≡ g → onwards g f ≡ said o us → onwards (r (pre ++ us')) f ≡ said o us'
    unfolding onwards
    chain_local none pre us us' s h h' (stuck vs) d e = rw (p.local none pre us us' s h h' (cc))
    chain_local (some b) pre us us' s h h' (stuck vs) d e = got_stuck (sym e)
    chain_local o pre us us' s h h' (got a vs) d e =
        let t = p.sound (pre ++ us) a vs h d in
        let w = W.word t.0 in
        let x = end_of a o vs us (shorter t.0 (pre ++ us) vs t.2 h) e in
        let y = x.0 in
        let whole : pre ≡ w ++ y = append_cancel_right pre (w ++ y) us
        (t.2 ∙ ap (λ (z : List Lexeme). w ++ z) x.1 ∙ sym (append_assoc w y us)) in
        let cut : (z : List Lexeme) → pre ++ z ≡ w ++ (y ++ z) =
        λ z. ap (λ (v : List Lexeme). v ++ z) whole ∙ append_assoc w y z in
        let first : r (w ++ (y ++ us')) ≡ got a (y ++ us') =
        p.local (some a) w (y ++ us) (y ++ us') (same_front y us us' s) (rw (cut us) at h) (rw (cut us') at h')
        (rw (← (cut us), ← x.1) d) in
        rw (cut us', first) ((q a).local o y us us' s (shorter t.0 (pre ++ us) (y ++ us) (cut us) h)
        (shorter t.0 (pre ++ us') (y ++ us') (cut us') h') (rw x.1 at e))

    chain_agree : (ls : List Lexeme) → length ls < n → (g : Got A) → r ls ≡ g → onwards (r ls) f ≡ onwards (r' ls) f'
    unfolding onwards
    chain_agree ls h (stuck vs) d = rw (← (p.agree ls h), d)
    chain_agree ls h (got a vs) d =
        let s = p.sound ls a vs h d in
        rw (← (p.agree ls h), d) ((q a).agree vs (shorter s.0 ls vs s.2 h))

    pub chains : Phrase (chain W U) G n (r >>= f) (r' >>= f')
    unfolding ◌>>=◌
    chains = record {
      witness = (p.witness, (q _).witness);
      spells =
          let k = q (W.value p.witness) in
          both_spellable (W.word p.witness) ((U (W.value p.witness)).word k.witness) p.spells k.spells;
      sound = λ ls b us h e. chain_sound ls b us h (r ls) refl e;
      complete = chain_complete;
      prefix = λ ls us h e. chain_prefix ls us h (r ls) refl e;
      local = λ o pre us us' s h h' e. chain_local o pre us us' s h h' (r (pre ++ us)) refl e;
      agree = λ ls h. chain_agree ls h (r ls) refl;
    }

-- Tests

seen : (t : Lexeme → Bool) (ls ls' : List Lexeme) → front ls ≡ front ls' → begins t ls ≡ begins t ls'
unfolding begins
seen t ls ls' h = go ls ∙ ap (begins t) h ∙ sym (go ls')
  where
    go : (ls : List Lexeme) → begins t ls ≡ begins t (front ls)
    go [] = refl
    go (l ∷ ls) = refl

-- what a test says of the front of words and what follows them
abbrev pub Fronts : {A : Type 0} → (Lexeme → Bool) → Words A → Follow → Bool → Type 0
Fronts t W F b = Every (λ (i : W.index). (us : List Lexeme) → F us → begins t (W.word i ++ us) ≡ b)

-- a test that computes
pub clear : {I : Type 0} {F : Follow} {f : I → List Lexeme → Bool}
    → Every (λ i. (us : List Lexeme) → F us → f i us ≡ f i us)
clear = every λ i us h. refl

-- one reader or another, by the lexeme in front
module _ {A : Type 0} {W U : Words A} {F : Follow} {n : ℕ} {a a' b b' : Reader A} (t : Lexeme → Bool)
    (p : Phrase W F n a a') (q : Phrase U F n b b') (pass : Fronts t W F true) (fail : Fronts t U F false) where
  by_first : (ls : List Lexeme) → begins t ls ≡ true → choose t a b ls ≡ a ls
  unfolding choose
  by_first ls h = rw (choose, h)

  by_second : (ls : List Lexeme) → begins t ls ≡ false → choose t a b ls ≡ b ls
  unfolding choose
  by_second ls h = rw (choose, h)

  either_complete : (x : (either W U).index) (us : List Lexeme) → F us → length ((either W U).word x ++ us) < n
      → choose t a b ((either W U).word x ++ us) ≡ got ((either W U).value x) us
  either_complete (inl i) us f h = by_first (W.word i ++ us) (pass.at i us f) ∙ p.complete i us f h
  either_complete (inr j) us f h = by_second (U.word j ++ us) (fail.at j us f) ∙ q.complete j us f h

  pub chooses : Phrase (either W U) F n (choose t a b) (choose t a' b')
  unfolding choose
  chooses = record {
    witness = inl p.witness;
    spells = p.spells;
    sound = λ ls v us h e. split (begins t ls)
        (λ x. let s = p.sound ls v us h (sym (by_first ls x) ∙ e) in (inl s.0, s.1, s.2))
        (λ x. let s = q.sound ls v us h (sym (by_second ls x) ∙ e) in (inr s.0, s.1, s.2));
    complete = either_complete;
    prefix = λ ls us h e. split (begins t ls)
        (λ x. let s = p.prefix ls us h (sym (by_first ls x) ∙ e) in (s.0, s.1, inl s.2, s.3, s.4, s.5))
        (λ x. let s = q.prefix ls us h (sym (by_second ls x) ∙ e) in (s.0, s.1, inr s.2, s.3, s.4, s.5));
    local = λ o pre us us' s h h' e.
        let same = seen t (pre ++ us) (pre ++ us') (same_front pre us us' s) in
        split (begins t (pre ++ us))
        (λ x. by_first (pre ++ us') (sym same ∙ x) ∙ p.local o pre us us' s h h' (sym (by_first (pre ++ us) x) ∙ e))
        (λ x. by_second (pre ++ us') (sym same ∙ x) ∙ q.local o pre us us' s h h' (sym (by_second (pre ++ us) x) ∙ e));
    agree = λ ls h. split (begins t ls)
        (λ x. rw (choose, x) (p.agree ls h))
        (λ x. rw (choose, x) (q.agree ls h));
  }

-- Readers of one lexeme

abbrev pub answered : {A : Type 0} → Option A → Lexeme → List Lexeme → Got A
answered none l ls = stuck (l ∷ ls)
answered (some a) l ls = got a ls

-- such a reader takes the lexemes that s spells
pub record Takes {A : Type 0} (s : A → Lexeme) (r : Reader A) : Type 0 where
  pub tree : Lexeme → Option A
  pub at_none : r [] ≡ stuck []
  pub at : (l : Lexeme) (ls : List Lexeme) → r (l ∷ ls) ≡ answered (tree l) l ls
  pub fits : (l : Lexeme) (a : A) → tree l ≡ some a → l ≡ s a
  pub takes : (a : A) → tree (s a) ≡ some a
  pub example : A
  pub spells : Spellable (s example)

module _ {A : Type 0} {s : A → Lexeme} {r : Reader A} (k : Takes s r) where
  one_sound : (ls : List Lexeme) (a : A) (us : List Lexeme) → r ls ≡ got a us → (b : A) × (a ≡ b) × (ls ≡ s b ∷ us)
  one_sound [] a us e = got_stuck (sym e ∙ k.at_none)
  one_sound (l ∷ ls) a us e = go (k.tree l) refl (sym (k.at l ls) ∙ e)
    where
      go : (o : Option A) → k.tree l ≡ o → answered o l ls ≡ got a us → (b : A) × (a ≡ b) × (l ∷ ls ≡ s b ∷ us)
      go none d e = got_stuck (sym e)
      go (some b) d e = let f = k.fits l b d in (b, cc, cc)

  one_stuck : (ls us : List Lexeme) → r ls ≡ stuck us → ls ≡ us
  one_stuck [] us e = let z = k.at_none in cc
  one_stuck (l ∷ ls) us e = go (k.tree l) (sym (k.at l ls) ∙ e)
    where
      go : (o : Option A) → answered o l ls ≡ stuck us → l ∷ ls ≡ us
      go none e = cc
      go (some b) e = got_stuck e

  one_local : (o : Option A) (pre us us' : List Lexeme) → front us ≡ front us' → r (pre ++ us) ≡ said o us
      → r (pre ++ us') ≡ said o us'
  one_local none pre us us' f e =
      let q : pre ≡ [] = append_cancel_right pre [] us (one_stuck (pre ++ us) us e) in
      rw q (still us us' f (rw q at e))
    where
      still : (us us' : List Lexeme) → front us ≡ front us' → r us ≡ stuck us → r us' ≡ stuck us'
      still [] [] f e = e
      still [] (l ∷ ls) f e = let z : ◌≡◌ {A = ℕ} 0 1 = cc in absurd (omega arith)
      still (l ∷ ls) [] f e = let z : ◌≡◌ {A = ℕ} 0 1 = cc in absurd (omega arith)
      still (l ∷ ls) (x ∷ xs) f e =
          let q : l ≡ x = cc in
          rw (← q, k.at l xs) (go (k.tree l) (sym (k.at l ls) ∙ e))
        where
          go : (o : Option A) → answered o l ls ≡ stuck (l ∷ ls) → answered o l xs ≡ stuck (l ∷ xs)
          go none e = refl
          go (some a) e = got_stuck e
  one_local (some a) pre us us' f e =
      let x = one_sound (pre ++ us) a us e in
      let q : pre ≡ s x.0 ∷ [] = append_cancel_right pre (s x.0 ∷ []) us x.2 in
      rw (q, k.at (s x.0) us', k.takes x.0) (ap (λ (b : A). got b us') (sym x.1))

  pub ones : {F : Follow} {n : ℕ} → Phrase (of (λ (a : A). s a ∷ [])) F n r r
  ones = record {
    witness = k.example;
    spells = (k.spells, tt);
    sound = λ ls a us h e. one_sound ls a us e;
    complete = λ a us f h. rw (k.at, k.takes);
    prefix = λ ls us h e. ([], one_stuck ls us e, k.example, s k.example ∷ [], refl, (k.spells, tt));
    local = λ o pre us us' f h h' e. one_local o pre us us' f e;
    agree = λ ls h. refl;
  }

-- a test that one lexeme passes, which bytes spell
pub record Accepts (p : Lexeme → Bool) (l : Lexeme) : Type 0 where
  pub spells : Spellable l
  pub alone : (x : Lexeme) → p x ≡ true → x ≡ l
  pub itself : p l ≡ true

abbrev passing : Bool → Option (Unit {0})
passing true = some tt
passing false = none

expect_takes : {p : Lexeme → Bool} {l : Lexeme} → Accepts p l → Takes (λ _. l) (expect p)
unfolding expect begins rest
expect_takes {p} acc = record {
  tree = λ x. passing (p x);
  at_none = refl;
  at = λ x ls. split (p x) (λ h. rw (expect, h)) (λ h. rw (expect, h));
  fits = λ x a e. acc.alone x (passed (p x) e);
  takes = λ a. ap passing acc.itself;
  example = tt;
  spells = acc.spells;
}
  where
    passed : (b : Bool) → passing b ≡ some tt → b ≡ true
    passed true e = refl
    passed false e = let z : ◌≡◌ {A = ℕ} 0 1 = cc in absurd (omega arith)

module _ {A : Type 0} {W : Words A} {F : Follow} {n : ℕ} {r r' : Reader A} {p : Lexeme → Bool} {l : Lexeme}
    (acc : Accepts p l) (q : Phrase W F n r r') where
  -- a lexeme, then a part
  skips₁ : Phrase (l ▹ W) F (suc n) (expect p >>= λ _. r) (expect p >>= λ _. r')
  unfolding Same
  skips₁ = reword (λ x. (x.1, refl, refl)) (λ j. ((tt, j), refl, refl))
      (chains {F = anything} (ones (expect_takes acc)) (λ _. q) (λ _. omega arith) (λ _ _ _ _. tt))

  pub skips : Phrase (l ▹ W) F n (expect p >>= λ _. r) (expect p >>= λ _. r')
  skips = within (omega arith) skips₁

  -- that, or a part that does not begin with the lexeme
  pub picks₁ : {U : Words A} {b b' : Reader A} → Phrase U F (suc n) b b' → Fronts p U F false
      → Phrase (either (l ▹ W) U) F (suc n) (choose p (expect p >>= λ _. r) b) (choose p (expect p >>= λ _. r') b')
  unfolding begins
  picks₁ u fail = chooses p skips₁ u (every λ i us f. acc.itself) fail

  pub picks : {U : Words A} {b b' : Reader A} → Phrase U F n b b' → Fronts p U F false
      → Phrase (either (l ▹ W) U) F n (choose p (expect p >>= λ _. r) b) (choose p (expect p >>= λ _. r') b')
  unfolding begins
  picks u fail = chooses p skips u (every λ i us f. acc.itself) fail

-- one part, then another that may follow it
pub meets : {A B : Type 0} {W : Words A} {U : A → Words B} {F G : Follow} {n : ℕ} {r r' : Reader A} {f f' : A
    → Reader B}
    → Phrase W F n r r' → ((a : A) → Phrase (U a) G n (f a) (f' a))
    → ((i : W.index) (j : (U (W.value i)).index) (us : List Lexeme) → G us → F ((U (W.value i)).word j ++ us))
    → Phrase (chain W U) G n (r >>= f) (r' >>= f')
meets {n = n} p q joins = chains {m = n} p q (λ i. omega arith) joins

-- one part that anything may follow, then another
pub thens : {A B : Type 0} {W : Words A} {U : A → Words B} {G : Follow} {n : ℕ} {r r' : Reader A} {f f' : A → Reader B}
    → Phrase W anything n r r' → ((a : A) → Phrase (U a) G n (f a) (f' a))
    → Phrase (chain W U) G n (r >>= f) (r' >>= f')
thens p q = meets p q (λ _ _ _ _. tt)

-- one part, made into another tree
pub turns : {A B : Type 0} (g : A → B) {W : Words A} {F : Follow} {n : ℕ} {r r' : Reader A}
    → Phrase W F n r r' → Phrase (turned g W) F n (r >>= λ a. give (g a)) (r' >>= λ a. give (g a))
unfolding Same
turns g {W = W} p =
    reword (λ x. (x.0, refl, append-nil (W.word x.0))) (λ i. ((i, tt), refl, sym (append-nil (W.word i))))
    (meets p (λ a. gives (g a)) (λ _ _ _ f. f))

-- Repetition, of a part whose words begin with a lexeme that passes a test
module _ {A : Type 0} (s : A → List Lexeme) (p : Lexeme → Bool) (starts : (a : A) (us : List Lexeme)
    → begins p (s a ++ us) ≡ true) where
  not_empty : (a : A) → 1 ≤ length (s a)
  unfolding begins
  not_empty a = go (s a) (starts a [])
    where
      go : (w : List Lexeme) → begins p (w ++ []) ≡ true → 1 ≤ length w
      go [] e = absurd (false≢true e)
      go (l ∷ w) e = omega arith

  -- another of them may follow one, and what follows the last may too
  module _ {F : Follow} (another : (us : List Lexeme) → begins p us ≡ true → F us) where
    pub follows : (as' : List A) (us : List Lexeme) → F us → F (each s as' ++ us)
    unfolding each
    follows [] us f = f
    follows (a ∷ as') us f = another _ (rw append_assoc (starts a (each s as' ++ us)))

    pub manys_before : {r r' : Reader A} (k n : ℕ) → n ≤ k → Phrase (of s) F n r r'
        → Phrase (of (each s)) (λ us. (begins p us ≡ false) × F us) n (read_many p r k) (read_many p r' (suc k))
    unfolding read_many each
    manys_before zero n h q = vacuous (omega arith) [] tt
    manys_before (suc k) zero h q = vacuous refl [] tt
    manys_before (suc k) (suc n) h q = spelled
        (chooses p
        (chains {m = n} q (λ a. turns (λ (x : List A). a ∷ x) (manys_before k n (omega arith) (within (omega arith) q)))
        (λ a. omega (arith, not_empty a)) (λ _ as' us g. follows as' us g.1))
        (gives []) (every λ x us f. rw append_assoc (starts x.0 (each s x.1 ++ us))) (every λ x us f. f.0))
        (cases exact exact)
        (elim [ [] ↦ (inr tt, refl) | a ∷ as' ↦ (inl (a, as'), refl) ])

  pub manys : {r r' : Reader A} (k n : ℕ) → n ≤ k → Phrase (of s) anything n r r'
      → Phrase (of (each s)) (λ us. begins p us ≡ false) n (read_many p r k) (read_many p r' (suc k))
  manys k n h q = followed (λ us f. (f, tt)) (manys_before {F = anything} (λ _ _. tt) k n h q)

  pub somes : {r r' : Reader A} (k n : ℕ) → n ≤ k → Phrase (of s) anything n r r'
      → Phrase (of (λ (x : Some A). each s (all x))) (λ us. begins p us ≡ false) n (read_some p r k)
      (read_some p r' (suc k))
  unfolding read_some each
  somes k n h q = spelled
      (thens q λ a. turns (λ (x : List A). record { head = a; more = x }) (manys k n h q))
      exact (λ x. ((x.head, x.more), refl))

-- Refusals 3, 5 and 6 name the first token that offends: one law for a pass that carries a summary of the tokens
-- before, used three times.
use Prim.Native.Nat.{ℕ, suc, ◌+◌, ◌≤◌}
use native.Mathlib.Omega.{arith}
use mathlib.Core.Path.{◌≡◌, refl, sym, ap, subst, ◌∙◌}
use mathlib.Core.Bool.{Bool, true, false, ◌&&◌, ◌||◌, not, false≢true, or_assoc}
use mathlib.Core.Logic.{◌⊎◌, inl, inr, ⊎_elim, ◌↔◌}
use mathlib.Core.List.{List, [], ◌∷◌, ◌++◌, append-nil, append_assoc}
use mathlib.Core.Option.{Option, none, some}
use lib.ListN.{length, length-append}
use lib.Seq.{append_snoc}
use lib.Dec.{leb}
use Rattle.syntax.specs.Bytes.{same_bytes}
use Rattle.syntax.specs.Token.{Lexeme, name, key, number, mark, Keyword, k_monitor, k_var, k_method, k_waituntil, k_try, Token}
use Rattle.syntax.specs.Decide.Lexeme.{is_key}
use Rattle.meaning.specs.Accepted.{opens, closes}
use Rattle.meaning.specs.Decide.Check.{tally, crowded, past_limit, member, misnamed}
use Rattle.meaning.specs.Accepted.{NoneOffends, FirstOffends, how_many, Crowded, PastLimit, Behind, Declared}
use Rattle.meaning.specs.Accepted.{Misnamed}
use Rattle.logic.proofs.Bools.{split, clash}
use Rattle.logic.proofs.Bools.{different, Decides, decides_and, decides_or, decides_by, decides_leb}
use Rattle.syntax.proofs.Lexemes.{decides_same, decides_key}

-- Two places in one list: the same, or one stands before the other

data Places (b₁ : List Token) (t₁ : Token) (a₁ b₂ : List Token) (t₂ : Token) (a₂ : List Token) : Type 0 where
  together : b₁ ≡ b₂ → t₁ ≡ t₂ → Places b₁ t₁ a₁ b₂ t₂ a₂
  earlier : (c : List Token) → b₂ ≡ b₁ ++ (t₁ ∷ c) → a₁ ≡ c ++ (t₂ ∷ a₂) → Places b₁ t₁ a₁ b₂ t₂ a₂
  later : (c : List Token) → b₁ ≡ b₂ ++ (t₂ ∷ c) → a₂ ≡ c ++ (t₁ ∷ a₁) → Places b₁ t₁ a₁ b₂ t₂ a₂

places : (b₁ : List Token) (t₁ : Token) (a₁ b₂ : List Token) (t₂ : Token) (a₂ : List Token)
    → b₁ ++ (t₁ ∷ a₁) ≡ b₂ ++ (t₂ ∷ a₂) → Places b₁ t₁ a₁ b₂ t₂ a₂
places [] t₁ a₁ [] t₂ a₂ e = together refl (cc)
places [] t₁ a₁ (x ∷ b₂) t₂ a₂ e = earlier b₂ (cc) (cc)
places (x ∷ b₁) t₁ a₁ [] t₂ a₂ e = later b₁ (cc) (cc)
places (x ∷ b₁) t₁ a₁ (y ∷ b₂) t₂ a₂ e = under (cc) (places b₁ t₁ a₁ b₂ t₂ a₂ (cc))
  where
    under : x ≡ y → Places b₁ t₁ a₁ b₂ t₂ a₂ → Places (x ∷ b₁) t₁ a₁ (y ∷ b₂) t₂ a₂
    under q (together p r) = together (cc) r
    under q (earlier c p r) = earlier c (cc) r
    under q (later c p r) = later c (cc) r

no_more : (c : List Token) (t : Token) (a : List Token) → [] ≡ c ++ (t ∷ a) → ⊥
no_more [] t a e = different (cc)
no_more (x ∷ c) t a e = different (cc)

-- a place in a list with one more token is the last, or a place in the list
last_or_before : (b : List Token) (t : Token) (b₂ : List Token) (t₂ : Token) (a₂ : List Token)
    → b ++ (t ∷ []) ≡ b₂ ++ (t₂ ∷ a₂)
    → ((b ≡ b₂) × (t ≡ t₂)) ⊎ ((c : List Token) × (b ≡ b₂ ++ (t₂ ∷ c)) × (a₂ ≡ c ++ (t ∷ [])))
last_or_before b t b₂ t₂ a₂ e = go (places b t [] b₂ t₂ a₂ e)
  where
    go : Places b t [] b₂ t₂ a₂
        → ((b ≡ b₂) × (t ≡ t₂)) ⊎ ((c : List Token) × (b ≡ b₂ ++ (t₂ ∷ c)) × (a₂ ≡ c ++ (t ∷ [])))
    go (together p q) = inl (p, q)
    go (earlier c p q) = absurd (no_more c t₂ a₂ q)
    go (later c p q) = inr (c, p, q)

-- The law

module _ (Offends : List Token → Token → Type 0) where
  pub first_unique : (ts : List Token) (j k : ℕ) → FirstOffends Offends ts j → FirstOffends Offends ts k → j ≡ k
  unfolding FirstOffends NoneOffends
  first_unique ts j k (b, a, t, e, o, p, n) (b₂, a₂, t₂, e₂, o₂, p₂, n₂) = go (places b t a b₂ t₂ a₂ (sym e ∙ e₂))
    where
      go : Places b t a b₂ t₂ a₂ → j ≡ k
      go (together q r) = sym p ∙ ap (λ (u : Token). u.at) r ∙ p₂
      go (earlier c q r) = absurd (n₂ b c t q o)
      go (later c q r) = absurd (n b₂ c t₂ q o₂)

  none_or_first : (ts : List Token) (k : ℕ) → NoneOffends Offends ts → FirstOffends Offends ts k → ⊥
  unfolding FirstOffends NoneOffends
  none_or_first ts k n (b, a, t, e, o, p, m) = n b a t e o

  none_more : (before : List Token) (t : Token) → NoneOffends Offends before → (Offends before t → ⊥)
      → NoneOffends Offends (before ++ (t ∷ []))
  unfolding NoneOffends
  none_more before t n h b a u e o = ⊎_elim
      (λ p. h (rw (p.0, p.1) o))
      (λ p. n b p.0 u p.1 o)
      (last_or_before before t b u a e)

  -- what a pass finds: nothing, or the place of the first
  abbrev Finds : Option ℕ → List Token → Type 0
  Finds none ts = NoneOffends Offends ts
  Finds (some k) ts = FirstOffends Offends ts k

  exactly : (o : Option ℕ) (ts : List Token) → Finds o ts
      → ((k : ℕ) → (o ≡ some k) ↔ FirstOffends Offends ts k) × ((o ≡ none) ↔ NoneOffends Offends ts)
  exactly none ts n = (λ k. (λ e. different (cc), λ f. absurd (none_or_first ts k n f)), (λ e. n, λ m. refl))
  exactly (some j) ts f = (
    λ k. (λ e. let q : j ≡ k = cc in rw q at f, λ g. ap some (first_unique ts j k f g)),
    (λ e. different (cc), λ m. absurd (none_or_first ts j m f)),
  )

-- a pass with a summary of type S, over tokens of which something holds; what it is for a summary to be that of the
-- tokens before; and a test of a token that may look at those behind it
pub record Pass (S : Type 0) (Offends : List Token → Token → Type 0) (Whole : List Token → Type 0) : Type 1 where
  pub find : S → List Token → Option ℕ
  pub test : S → Token → List Token → Bool
  pub update : S → Token → S
  pub Sums : S → List Token → Type 0
  pub at_end_lem : (s : S) → find s [] ≡ none
  pub at_token : (s : S) (t : Token) (ts : List Token)
      → find s (t ∷ ts) ≡ elim (test s t ts) as (λ b. Option ℕ) [ true ↦ some t.at | false ↦ find (update s t) ts ]
  pub goes_on : (s : S) (before : List Token) (t : Token) → Sums s before → Sums (update s t) (before ++ (t ∷ []))
  pub decides : (s : S) (before : List Token) (t : Token) (ts : List Token) → Whole (before ++ (t ∷ ts)) → Sums s before
      → Decides (test s t ts) (Offends before t)

module _ {S : Type 0} {Offends : List Token → Token → Type 0} {Whole : List Token → Type 0} (p : Pass S Offends Whole)
  where
    finds_from : (ts before : List Token) (s : S) → Whole (before ++ ts) → p.Sums s before → NoneOffends Offends before
        → Finds Offends (p.find s ts) (before ++ ts)
    unfolding FirstOffends
    finds_from [] before s w sums n = rw (p.at_end_lem s, append-nil) n
    finds_from (t ∷ ts) before s w sums n = split (p.test s t ts)
        (λ h. rw (p.at_token s t ts, h) (before, ts, t, refl, (p.decides s before t ts w sums).0 h, refl, n))
        (λ h. rw (p.at_token s t ts, h, ← (append_snoc before t ts))
        (finds_from ts (before ++ (t ∷ [])) (p.update s t) (subst Whole (sym (append_snoc before t ts)) w)
        (p.goes_on s before t sums)
        (none_more Offends before t n (λ o. clash ((p.decides s before t ts w sums).1 o) h))))

    pub law : (s : S) (ts : List Token) → Whole ts → p.Sums s []
        → ((k : ℕ) → (p.find s ts ≡ some k) ↔ FirstOffends Offends ts k)
        × ((p.find s ts ≡ none) ↔ NoneOffends Offends ts)
    unfolding NoneOffends
    law s ts w sums = exactly Offends (p.find s ts) ts (finds_from ts [] s w sums (λ b a t e o. no_more b t a e))

-- Counts of what stands before

tally_suc : (b : Bool) (n : ℕ) → tally b (suc n) ≡ suc (tally b n)
unfolding tally
tally_suc true n = omega arith
tally_suc false n = refl

more_of : (p : Lexeme → Bool) (before : List Token) (t : Token) → how_many p (before ++ (t ∷ []))
    ≡ tally (p t.lexeme) (how_many p before)
unfolding how_many tally
more_of p [] t = split (p t.lexeme) (λ h. rw (h, how_many)) (λ h. rw (h, how_many))
more_of p (u ∷ before) t = split (p u.lexeme)
    (λ h. rw (h, how_many) (ap suc (more_of p before t) ∙ sym (tally_suc (p t.lexeme) (how_many p before))))
    (λ h. rw (h, how_many) (more_of p before t))

-- 3

-- of all tokens
abbrev Any : List Token → Type 0
Any _ = Unit {0}

crowding : Pass (ℕ × ℕ × ℕ) Crowded Any
unfolding crowded Crowded
crowding =
    record {
      find = λ s ts. crowded s.0 s.1 s.2 ts;
      test = λ s t ts. leb 1024 s.0 || (opens t.lexeme && leb (s.2 + 12) s.1);
      update = λ s t. (s.0 + 1, tally (opens t.lexeme) s.1, tally (closes t.lexeme) s.2);
      Sums = λ s before. s ≡ (length before, how_many opens before, how_many closes before);
      at_end_lem = λ s. refl;
      at_token = λ s t ts. refl;
      goes_on = λ s before t h. rw (h, length-append, more_of opens, more_of closes);
      decides = λ s before t ts w h. rw h (decides_or _ _ (decides_leb 1024 (length before))
          (decides_and _ _ ((λ e. e), λ e. e)
          (decides_by ((λ e. omega arith), λ e. omega arith)
          (decides_leb (how_many closes before + 12) (how_many opens before)))));
    }

pub crowded_first : (ts : List Token) (k : ℕ) → (crowded 0 0 0 ts ≡ some k) ↔ FirstOffends Crowded ts k
unfolding crowding how_many
crowded_first ts k = (law crowding (0, 0, 0) ts tt refl).0 k

pub crowded_none : (ts : List Token) → (crowded 0 0 0 ts ≡ none) ↔ NoneOffends Crowded ts
unfolding crowding how_many
crowded_none ts = (law crowding (0, 0, 0) ts tt refl).1

-- 5

limiting : Pass (ℕ × ℕ × ℕ × ℕ) PastLimit Any
unfolding past_limit PastLimit
limiting =
    record {
      find = λ s ts. past_limit s.0 s.1 s.2 s.3 ts;
      test = λ s t ts. (is_key k_var t.lexeme && leb 6 s.0) || (is_key k_method t.lexeme && leb 8 s.1)
          || (is_key k_waituntil t.lexeme && leb 16 s.2) || (is_key k_try t.lexeme && leb 16 s.3);
      update = λ s t. (
        tally (is_key k_var t.lexeme) s.0,
        tally (is_key k_method t.lexeme) s.1,
        tally (is_key k_waituntil t.lexeme) s.2,
        tally (is_key k_try t.lexeme) s.3,
      );
      Sums = λ s before. s ≡ (
        how_many (is_key k_var) before,
        how_many (is_key k_method) before,
        how_many (is_key k_waituntil) before,
        how_many (is_key k_try) before,
      );
      at_end_lem = λ s. refl;
      at_token = λ s t ts. refl;
      goes_on = λ s before t h. rw (h, more_of (is_key k_var), more_of (is_key k_method), more_of (is_key k_waituntil), more_of (is_key k_try));
      decides = λ s before t ts w h. rw (h, or_assoc, or_assoc)
          (decides_or _ _ (past k_var 6 before t)
          (decides_or _ _ (past k_method 8 before t)
          (decides_or _ _ (past k_waituntil 16 before t) (past k_try 16 before t))));
    }
  where
    past : (k : Keyword) (n : ℕ) (before : List Token) (t : Token)
        → Decides (is_key k t.lexeme && leb n (how_many (is_key k) before))
        ((t.lexeme ≡ key k) × (n ≤ how_many (is_key k) before))
    past k n before t = decides_and _ _ (decides_key k t.lexeme) (decides_leb n (how_many (is_key k) before))

pub past_first : (ts : List Token) (k : ℕ) → (past_limit 0 0 0 0 ts ≡ some k) ↔ FirstOffends PastLimit ts k
unfolding limiting how_many
past_first ts k = (law limiting (0, 0, 0, 0) ts tt refl).0 k

pub past_none : (ts : List Token) → (past_limit 0 0 0 0 ts ≡ none) ↔ NoneOffends PastLimit ts
unfolding limiting how_many
past_none ts = (law limiting (0, 0, 0, 0) ts tt refl).1

-- 6: what one more token does to what stands last and to what is declared

behind_more : (k : Keyword) (before : List Token) (t : Token) → (t.lexeme ≡ key k) ↔ Behind k (before ++ (t ∷ []))
unfolding Behind
behind_more k before t = ((λ e. (before, t, refl, e)), back)
  where
    back : (front : List Token) × (u : Token) × (before ++ (t ∷ []) ≡ front ++ (u ∷ [])) × (u.lexeme ≡ key k)
        → t.lexeme ≡ key k
    back (front, u, e, h) = ⊎_elim
        (λ p. ap (λ (v : Token). v.lexeme) p.1 ∙ h)
        (λ p. absurd (no_more p.0 t [] p.2))
        (last_or_before before t front u [] e)

declared_more : (k : Keyword) (x : List ℕ) (before : List Token) (t : Token)
    → (Declared k x before ⊎ (Behind k before × (t.lexeme ≡ name x))) ↔ Declared k x (before ++ (t ∷ []))
unfolding Behind Declared
declared_more k x before t = (forth, back)
  where
    forth : Declared k x before ⊎ (Behind k before × (t.lexeme ≡ name x)) → Declared k x (before ++ (t ∷ []))
    forth (inl (front, rest, u, v, e, h, g)) = (front, rest ++ (t ∷ []), u, v, rw (e, append_assoc), h, g)
    forth (inr ((front, u, e, h), g)) = (front, [], u, t, rw (e, append_assoc), h, g)

    back : Declared k x (before ++ (t ∷ [])) → Declared k x before ⊎ (Behind k before × (t.lexeme ≡ name x))
    back (front, rest, u, v, e, h, g) = ⊎_elim
        (λ p. inr ((front, u, p.0, h), ap (λ (w : Token). w.lexeme) p.1 ∙ g))
        (λ p. inl (front, p.0, u, v, p.1 ∙ append_assoc front (u ∷ []) (v ∷ p.0), h, g))
        (last_or_before before t (front ++ (u ∷ [])) v rest (e ∙ sym (append_assoc front (u ∷ []) (v ∷ rest))))

-- the names declared, after one more lexeme with or without the keyword before it
declare : Bool → Lexeme → List (List ℕ) → List (List ℕ)
declare b (name x) xs = elim b [ true ↦ x ∷ xs | false ↦ xs ]
declare b (key k) xs = xs
declare b (number n) xs = xs
declare b (mark m) xs = xs

declares : {D U : Type 0} (b : Bool) (l : Lexeme) (xs : List (List ℕ)) (x : List ℕ) → Decides (member x xs) D
    → Decides b U
    → Decides (member x (declare b l xs)) (D ⊎ (U × (l ≡ name x)))
unfolding declare member
declares true (name y) xs x d v = decides_by
    ((⊎_elim (λ e. inr (v.0 refl, ap name (sym e))) inl), ⊎_elim inr (λ p. inl (let e = p.1 in cc)))
    (decides_or (same_bytes x y) (member x xs) (decides_same x y) d)
declares false (name y) xs x d v = decides_by (inl, ⊎_elim (λ h. h) (λ p. absurd (false≢true (v.1 p.0)))) d
declares b (key k) xs x d v = decides_by (inl, ⊎_elim (λ h. h) (λ p. different (let e = p.1 in cc))) d
declares b (number n) xs x d v = decides_by (inl, ⊎_elim (λ h. h) (λ p. different (let e = p.1 in cc))) d
declares b (mark m) xs x d v = decides_by (inl, ⊎_elim (λ h. h) (λ p. different (let e = p.1 in cc))) d

-- is a name wrong: does it follow `var`, `method` or `monitor`, and is it a variable or a method that was declared
wrong : Bool → Bool → Bool → Bool → Bool → Bool
wrong v m o a b = elim v [ true ↦ a | false ↦ elim m [ true ↦ b | false ↦ not (o || a) ] ]

wrong_decides : {U M O A B : Type 0} (v m o a b : Bool) → Decides v U → Decides m M → Decides o O → Decides a A
    → Decides b B
    → (U → M → ⊥) → Decides (wrong v m o a b) ((U × A) ⊎ (M × B) ⊎ ((U → ⊥) × (M → ⊥) × (O → ⊥) × (A → ⊥)))
unfolding wrong
wrong_decides true m o a b U M O A B one = (
  (λ h. inl (U.0 refl, A.0 h)),
  ⊎_elim (λ p. A.1 p.1) (⊎_elim (λ p. absurd (one (U.0 refl) p.0)) (λ p. absurd (p.0 (U.0 refl)))),
)
wrong_decides false true o a b U M O A B one = (
  (λ h. inr (inl (M.0 refl, B.0 h))),
  ⊎_elim (λ p. absurd (false≢true (U.1 p.0))) (⊎_elim (λ p. B.1 p.1) (λ p. absurd (p.1 (M.0 refl)))),
)
wrong_decides false false true a b U M O A B one = (
  (λ h. absurd (false≢true h)),
  ⊎_elim (λ p. U.1 p.0) (⊎_elim (λ p. M.1 p.0) (λ p. absurd (p.2 (O.0 refl)))),
)
wrong_decides false false false true b U M O A B one = (
  (λ h. absurd (false≢true h)),
  ⊎_elim (λ p. U.1 p.0) (⊎_elim (λ p. M.1 p.0) (λ p. absurd (p.3 (A.0 refl)))),
)
wrong_decides false false false false b U M O A B one = (
  (λ h. inr (inr (
    λ q. false≢true (U.1 q),
    λ q. false≢true (M.1 q),
    λ q. false≢true (O.1 q),
    λ q. false≢true (A.1 q),
  ))),
  λ p. refl,
)

-- the lexeme before, the variables and the methods
abbrev Summary : Type 0
Summary = Lexeme × List (List ℕ) × List (List ℕ)

wrongly : Summary → Lexeme → Bool
wrongly s (name x) = wrong (is_key k_var s.0) (is_key k_method s.0) (is_key k_monitor s.0) (member x s.1)
    (member x s.2)
wrongly s (key k) = false
wrongly s (number n) = false
wrongly s (mark m) = false

named : Summary → Lexeme → Summary
named s l = (l, declare (is_key k_var s.0) l s.1, declare (is_key k_method s.0) l s.2)

one_keyword : (l : Lexeme) → is_key k_var l ≡ true → is_key k_method l ≡ true → ⊥
one_keyword l v m = let e = (decides_key k_var l).0 v in let f = (decides_key k_method l).0 m in different (cc)

-- the summary decides what stands last and what is declared
record Names (s : Summary) (before : List Token) : Type 0 where
  last : (k : Keyword) → Decides (is_key k s.0) (Behind k before)
  vars : (x : List ℕ) → Decides (member x s.1) (Declared k_var x before)
  methods : (x : List ℕ) → Decides (member x s.2) (Declared k_method x before)

-- the cases of `misnamed` at a name, in order
picked : (v m o a b : Bool) → (v ≡ true → m ≡ true → ⊥)
    → (found : Option ℕ) (next : List (List ℕ) → List (List ℕ) → Option ℕ)
    (x : List ℕ) (vs ms : List (List ℕ))
    → ◌≡◌ {A = Option ℕ}
    (elim v [
      | true ↦ elim a [ true ↦ found | false ↦ next (x ∷ vs) ms ]
      | false ↦ elim m [
        | true ↦ elim b [ true ↦ found | false ↦ next vs (x ∷ ms) ]
        | false ↦ elim (o || a) [ true ↦ next vs ms | false ↦ found ]
      ]
    ])
    (elim (wrong v m o a b) [ true ↦ found | false ↦ next (declare v (name x) vs) (declare m (name x) ms) ])
unfolding wrong declare
picked true true o a b one found next x vs ms = absurd (one refl refl)
picked true false o true b one found next x vs ms = refl
picked true false o false b one found next x vs ms = refl
picked false true o a true one found next x vs ms = refl
picked false true o a false one found next x vs ms = refl
picked false false true a b one found next x vs ms = refl
picked false false false true b one found next x vs ms = refl
picked false false false false b one found next x vs ms = refl

finds : (s : Summary) (at : ℕ) (l : Lexeme) (ts : List Token)
    → misnamed s.0 s.1 s.2 (record { at = at; lexeme = l } ∷ ts)
    ≡ elim (wrongly s l) as (λ b. Option ℕ)
    [ true ↦ some at | false ↦ misnamed (named s l).0 (named s l).1 (named s l).2 ts ]
unfolding misnamed wrongly named declare
finds s at (key k) ts = refl
finds s at (number n) ts = refl
finds s at (mark m) ts = refl
finds s at (name x) ts = picked _ _ _ _ _ (one_keyword s.0) (some at) (λ vs ms. misnamed (name x) vs ms ts) x s.1
    s.2

judges : (s : Summary) (before : List Token) (t : Token) (l : Lexeme) → Names s before → t.lexeme ≡ l
    → Decides (wrongly s l) (Misnamed before t)
unfolding wrongly Misnamed
judges s before t (name x) n e = decides_by (
  (λ p. (x, e, p)),
  λ p. let f = p.1 in let q : p.0 ≡ x = cc in
      rw q at p.2,
)
    (wrong_decides _ _ _ _ _ (n.last k_var) (n.last k_method) (n.last k_monitor) (n.vars x) (n.methods x)
    (λ v m. one_keyword s.0 ((n.last k_var).1 v) ((n.last k_method).1 m)))
judges s before t (key k) n e = ((λ h. absurd (false≢true h)), λ p. let f = p.1 in cc)
judges s before t (number m) n e = ((λ h. absurd (false≢true h)), λ p. let f = p.1 in cc)
judges s before t (mark m) n e = ((λ h. absurd (false≢true h)), λ p. let f = p.1 in cc)

naming : Pass Summary Misnamed Any
naming =
    record {
      find = λ s ts. misnamed s.0 s.1 s.2 ts;
      test = λ s t ts. wrongly s t.lexeme;
      update = λ s t. named s t.lexeme;
      Sums = Names;
      at_end_lem = λ s. unfold misnamed in refl;
      at_token = λ s t ts. finds s t.at t.lexeme ts;
      goes_on = λ s before t n. unfold named in
          record {
            last = λ k. decides_by (behind_more k before t) (decides_key k t.lexeme);
            vars =
                λ x. decides_by (declared_more k_var x before t)
                (declares _ t.lexeme s.1 x (n.vars x) (n.last k_var));
            methods =
                λ x. decides_by (declared_more k_method x before t)
                (declares _ t.lexeme s.2 x (n.methods x) (n.last k_method));
          };
      decides = λ s before t ts w n. judges s before t t.lexeme n refl;
    }

nothing_before : Names (number 0, [], []) []
unfolding member is_key Behind Declared
nothing_before =
    record {
      last = λ k. ((λ h. absurd (false≢true h)), λ p. absurd (no_more p.0 p.1 [] p.2));
      vars = λ x. ((λ h. absurd (false≢true h)), λ p. absurd (no_more p.0 p.2 (p.3 ∷ p.1) p.4));
      methods = λ x. ((λ h. absurd (false≢true h)), λ p. absurd (no_more p.0 p.2 (p.3 ∷ p.1) p.4));
    }

pub misnamed_first : (ts : List Token) (k : ℕ) → (misnamed (number 0) [] [] ts ≡ some k) ↔ FirstOffends Misnamed ts k
unfolding naming
misnamed_first ts k = (law naming (number 0, [], []) ts tt nothing_before).0 k

pub misnamed_none : (ts : List Token) → (misnamed (number 0) [] [] ts ≡ none) ↔ NoneOffends Misnamed ts
unfolding naming
misnamed_none ts = (law naming (number 0, [], []) ts tt nothing_before).1

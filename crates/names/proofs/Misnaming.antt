-- 6 as a pass over the tokens: what one token does to the names declared, which are held in the order in which they
-- come.
use Prim.Native.Nat.{ℕ, ◌+◌, ◌≤◌, ◌<◌}
use native.Mathlib.Omega.{arith}
use mathlib.Core.Path.{◌≡◌, refl, sym, ap, ◌∙◌}
use mathlib.Core.Bool.{Bool, true, false, ◌&&◌, ◌||◌, or_assoc, or_comm, or-false}
use mathlib.Core.List.{List, [], ◌∷◌, ◌++◌, append-nil, reverse, reverse-cons}
use mathlib.Core.Option.{Option, none, some}
use lib.ListN.{length, drop, get_or, length-append, length-reverse}
use lib.Dec.{eqb}
use Rattle.syntax.specs.Limits.{most_vars, most_methods}
use Rattle.syntax.specs.Bytes.{same_bytes}
use Rattle.syntax.specs.Token.{Lexeme, name, key, number, mark, Token, k_var, k_method}
use Rattle.syntax.specs.Decide.Lexeme.{is_key}
use Rattle.syntax.specs.Held.Kind.{kind_of, name_kind, number_kind, Words}
use Rattle.syntax.proofs.Lexemes.{decides_key}
use Rattle.logic.proofs.Bools.{different}
use Rattle.meaning.specs.Decide.Check.{past_limit, member, misnamed}
use Rattle.names.specs.declared.Names.{Names}
use Rattle.std.specs.Prelude.{Some, None}
use Rattle.passes.specs.Pass.{found_of}
use Rattle.names.specs.Slots.{Titles, Grows, Judges, wrong_by, wrongly}
use Rattle.passes.proofs.ByIndex.{token_at, kind_at, Few, few_first, few_next, room, Pass, offends, goes_on, ends}
use Rattle.names.proofs.Naming.{name_stands}
use Rattle.names.proofs.Listing.{added, added_few, grown_at}

-- 6 as a pass: the lexeme before, and the variables and methods declared, the last first

one_keyword : (l : Lexeme) → is_key k_var l ≡ true → is_key k_method l ≡ true → ⊥
one_keyword l v m = let e = (decides_key k_var l).0 v in let f = (decides_key k_method l).0 m in different (cc)

-- the cases of `misnamed` at a name, in order
picked : (v m o a b : Bool) → (v ≡ true → m ≡ true → ⊥)
    → (found : Option ℕ) (next : List (List ℕ) → List (List ℕ) → Option ℕ)
    (x : List ℕ) (vs ms : List (List ℕ))
    → ◌≡◌ {A = Option ℕ}
    (elim v [
      | true ↦ elim a [ true ↦ found | false ↦ next (x ∷ vs) ms ]
      | false ↦ elim m [
        | true ↦ elim b [ true ↦ found | false ↦ next vs (x ∷ ms) ]
        | false ↦ elim (o || a) [ true ↦ next vs ms | false ↦ found ]
      ]
    ])
    (elim (wrong_by v m o a b) [ true ↦ found | false ↦ next (added v (name x) ++ vs) (added m (name x) ++ ms) ])
unfolding wrong_by added
picked true true o a b one found next x vs ms = absurd (one refl refl)
picked true false o true b one found next x vs ms = refl
picked true false o false b one found next x vs ms = refl
picked false true o a true one found next x vs ms = refl
picked false true o a false one found next x vs ms = refl
picked false false true a b one found next x vs ms = refl
picked false false false true b one found next x vs ms = refl
picked false false false false b one found next x vs ms = refl

pub misnamed_nothing : (last : Lexeme) (vs ms : List (List ℕ)) → misnamed last vs ms [] ≡ none
unfolding misnamed
misnamed_nothing last vs ms = refl

pub misnamed_token : (last : Lexeme) (vs ms : List (List ℕ)) (at : ℕ) (l : Lexeme) (ts : List Token)
    → misnamed last vs ms (record { at = at; lexeme = l } ∷ ts)
    ≡ elim (wrongly last vs ms l) as (λ b. Option ℕ)
    [ true ↦ some at | false ↦ misnamed l (added (is_key k_var last) l ++ vs) (added (is_key k_method last) l ++ ms) ts ]
unfolding misnamed wrongly added
misnamed_token last vs ms at (key k) ts = refl
misnamed_token last vs ms at (number n) ts = refl
misnamed_token last vs ms at (mark m) ts = refl
misnamed_token last vs ms at (name x) ts =
    picked _ _ _ _ _ (one_keyword last) (some at) (λ vs ms. misnamed (name x) vs ms ts) x vs ms

abbrev pub naming : Pass (Lexeme × List (List ℕ) × List (List ℕ))
naming =
    record {
      find = λ s ts. misnamed s.0 s.1 s.2 ts;
      test = λ s l ts. wrongly s.0 s.1 s.2 l;
      next = λ s l. (l, added (is_key k_var s.0) l ++ s.1, added (is_key k_method s.0) l ++ s.2);
      nothing = λ s. misnamed_nothing s.0 s.1 s.2;
      token = λ s t ts. misnamed_token s.0 s.1 s.2 t.at t.lexeme ts;
    }

-- the names as they are held are in the other order

reverse_added : (b : Bool) (l : Lexeme) (xs : List (List ℕ)) → reverse (added b l ++ xs) ≡ reverse xs ++ added b l
unfolding added
reverse_added true (name x) xs = reverse-cons x xs
reverse_added false (name x) xs = sym (append-nil (reverse xs))
reverse_added b (key k) xs = sym (append-nil (reverse xs))
reverse_added b (number n) xs = sym (append-nil (reverse xs))
reverse_added b (mark m) xs = sym (append-nil (reverse xs))

member_append : (x : List ℕ) (xs ys : List (List ℕ)) → member x (xs ++ ys) ≡ (member x xs || member x ys)
unfolding member
member_append x [] ys = refl
member_append x (y ∷ xs) ys = rw (member_append x xs ys) (sym (or_assoc (same_bytes x y) (member x xs) (member x ys)))

member_reverse : (x : List ℕ) (xs : List (List ℕ)) → member x (reverse xs) ≡ member x xs
unfolding member
member_reverse x [] = refl
member_reverse x (y ∷ xs) = ap (member x) (reverse-cons y xs) ∙ member_append x (reverse xs) (y ∷ [])
    ∙ rw (member_reverse x xs, or-false (same_bytes x y)) (or_comm (member x xs) (same_bytes x y))

wrong_reverse : (last l : Lexeme) (vs ms : List (List ℕ)) → wrongly last (reverse vs) (reverse ms) l
    ≡ wrongly last vs ms l
unfolding wrongly
wrong_reverse last (name x) vs ms = rw (member_reverse x vs, member_reverse x ms)
wrong_reverse last (key k) vs ms = refl
wrong_reverse last (number n) vs ms = refl
wrong_reverse last (mark m) vs ms = refl

pub record Naming (file : List ℕ) (ts : List Token) (vars methods : Names) (before i : ℕ) : Type 0 where
  pub last : Lexeme
  pub known : before ≡ kind_of last
  pub vs : List (List ℕ)
  pub ms : List (List ℕ)
  pub so_far : misnamed (number 0) [] [] ts ≡ misnamed last vs ms (drop i ts)
  pub vars_held : Titles file (reverse vs) vars
  pub methods_held : Titles file (reverse ms) methods
  pub few : Few ts i last (length vs) (length ms)

pub naming_first : (file : List ℕ) (ts : List Token) (vars methods : Names) → Titles file [] vars
    → Titles file [] methods → Naming file ts vars methods number_kind 0
unfolding kind_of
naming_first file ts vars methods t u =
    record {
      last = number 0;
      known = refl;
      vs = [];
      ms = [];
      so_far = refl;
      vars_held = t;
      methods_held = u;
      few =
          few_first ts;
    }

module _ {file : List ℕ} {ts : List Token} {kinds values places : List ℕ} (h : Words file ts kinds values places)
    {vars methods : Names} {before i : ℕ}
    (s : Naming file ts vars methods before i) where
  abbrev summary : Lexeme × List (List ℕ) × List (List ℕ)
  summary = (s.last, s.vs, s.ms)

  judged : i < length kinds → (r : Bool) → Judges file vars methods (get_or kinds i 0) before (get_or places i 0)
      (get_or values i 0) r
      → wrongly s.last s.vs s.ms (token_at ts i).lexeme ≡ r
  judged l r d = sym
      (d (reverse s.vs) (reverse s.ms) (token_at ts i).lexeme s.last s.vars_held s.methods_held
      (kind_at h i) s.known (name_stands h i l)
      ∙ wrong_reverse s.last (token_at ts i).lexeme s.vs s.ms)

  pub naming_offends : i < length kinds → (r : Bool)
      → Judges file vars methods (get_or kinds i 0) before (get_or places i 0) (get_or values i 0) r → r ≡ true
      → Some (get_or places i 0) ≡ found_of (misnamed (number 0) [] [] ts)
  naming_offends l r d e = offends naming h (number 0, [], []) summary i s.so_far l (judged l r d ∙ e)

  pub naming_ends : length kinds ≤ i → None ≡ found_of (misnamed (number 0) [] [] ts)
  naming_ends l = ends naming h (number 0, [], []) summary i s.so_far l

  pub naming_next : past_limit 0 0 0 0 ts ≡ none → i < length kinds → (r : Bool)
      → Judges file vars methods (get_or kinds i 0) before (get_or places i 0) (get_or values i 0) r → r ≡ false
      → {vars' methods' : Names} (a b : Bool)
      → a ≡ (eqb (get_or kinds i 0) name_kind && eqb before (kind_of (key k_var)))
      → Grows vars a (get_or places i 0) (get_or values i 0) vars'
      → b ≡ (eqb (get_or kinds i 0) name_kind && eqb before (kind_of (key k_method)))
      → Grows methods b (get_or places i 0) (get_or values i 0) methods'
      → Naming file ts vars' methods' (get_or kinds i 0) (i + 1)
  naming_next n l r d e a b f p g q =
      let t = token_at ts i in
      let v = is_key k_var s.last in
      let m = is_key k_method s.last in
      record {
        last = t.lexeme;
        known = kind_at h i;
        vs = added v t.lexeme ++ s.vs;
        ms = added m t.lexeme ++ s.ms;
        so_far = goes_on naming h (number 0, [], []) summary i s.so_far l (judged l r d ∙ e);
        vars_held =
            rw (reverse_added v t.lexeme s.vs) (grown_at h i l k_var s.last a s.known f p s.vars_held
            (rw length-reverse (room v _ _ most_vars s.few.vars s.few.few_vars (omega arith))));
        methods_held =
            rw (reverse_added m t.lexeme s.ms)
            (grown_at h i l k_method s.last b s.known g q s.methods_held
            (rw length-reverse (room m _ _ most_methods s.few.methods s.few.few_methods (omega arith))));
        few = few_next h n _ _ s.few l (rw length-append (added_few v t.lexeme (length s.vs)))
            (rw length-append (added_few m t.lexeme (length s.ms)));
      }

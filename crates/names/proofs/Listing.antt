-- The names that stand behind a keyword, as `declared` holds them; the variables of a file; and the operands: each
-- name's slot, and any other token's value.
use Prim.Native.Nat.{ℕ, ◌+◌, ◌≤◌, ◌<◌}
use native.Mathlib.Omega.{arith}
use mathlib.Core.Path.{◌≡◌, refl, ap, ◌∙◌}
use mathlib.Core.Bool.{Bool, true, false, ◌&&◌}
use mathlib.Core.List.{List, [], ◌∷◌, ◌++◌, append-nil, append_assoc, map, map-append}
use mathlib.Core.Option.{none}
use lib.ListN.{length, take, drop, get_or, set, length-append, length-map, drop_of_length-le}
use lib.Seq.{length-take-le, take_all, set_at, append_snoc}
use lib.Dec.{eqb}
use Rattle.syntax.specs.Limits.{most_vars, most_methods}
use Rattle.syntax.specs.Token.{Lexeme, name, key, number, mark, Token, k_var, Keyword}
use Rattle.syntax.specs.Decide.Lexeme.{is_key, is_name}
use Rattle.syntax.specs.Held.Kind.{kind_of, value_of, name_kind, number_kind, Words}
use Rattle.logic.proofs.Bools.{split}
use Rattle.meaning.specs.Decide.Check.{tally, past_limit}
use Rattle.names.specs.declared.Names.{Names}
use Rattle.names.specs.Slots.{titles_of, titles_from, slot_or_value, NameAt, Titles, Resolved, Grows}
use Rattle.syntax.proofs.ByKind.{kind_name, kind_key}
use Rattle.passes.proofs.ByIndex.{rest_at, token_at, kinds_long, value_at, kind_at, here, front_more, at_end_lem}
use Rattle.passes.proofs.ByIndex.{tally_least, Few, few_first, few_next, room}
use Rattle.names.proofs.Naming.{name_stands}

-- Names behind a keyword

-- what a lexeme adds to the names declared
unfoldable pub added : Bool → Lexeme → List (List ℕ)
added b (name x) = elim b [ true ↦ x ∷ [] | false ↦ [] ]
added b (key k) = []
added b (number n) = []
added b (mark m) = []

pub added_few : (b : Bool) (l : Lexeme) (n : ℕ) → length (added b l) + n ≤ tally b n
unfolding added tally
added_few true (name x) n = omega arith
added_few false (name x) n = omega arith
added_few b (key k) n = omega (arith, tally_least b n)
added_few b (number k) n = omega (arith, tally_least b n)
added_few b (mark m) n = omega (arith, tally_least b n)

pub titles_token : (last : Lexeme) (at : ℕ) (l : Lexeme) (ts : List Token)
    → titles_from last (record { at = at; lexeme = l } ∷ ts) ≡ added (is_key k_var last) l ++ titles_from l ts
unfolding titles_from added
titles_token last at (name x) ts =
    split (is_key k_var last) (λ e. rw (e, titles_from, added)) (λ e. rw (e, titles_from, added))
titles_token last at (key k) ts = refl
titles_token last at (number n) ts = refl
titles_token last at (mark m) ts = refl

-- What `declared` ensures, said of the lexeme: the names with what it adds

grown : {file : List ℕ} {names after : Names} {titles : List (List ℕ)} {start len : ℕ} (adds b : Bool) (l : Lexeme)
    → Grows names adds start len after
    → Titles file titles names → adds ≡ (is_name l && b) → (b ≡ true → length titles < most_methods)
    → ((x : List ℕ) → l ≡ name x → NameAt file x start len)
    → Titles file (titles ++ added b l) after
unfolding added is_name
grown adds true (name x) d t e r s = (d _ _ t).1 x e (r refl) (s x refl)
grown adds false (name x) d t e r s = rw append-nil ((d _ _ t).0 e)
grown adds b (key k) d t e r s = rw append-nil ((d _ _ t).0 e)
grown adds b (number n) d t e r s = rw append-nil ((d _ _ t).0 e)
grown adds b (mark m) d t e r s = rw append-nil ((d _ _ t).0 e)

module _ {file : List ℕ} {ts : List Token} {kinds values places : List ℕ} (h : Words file ts kinds values places)
    (i : ℕ) (l : i < length kinds) where
  pub grown_at : {names after : Names} {titles : List (List ℕ)} {before : ℕ} (k : Keyword) (last : Lexeme) (adds : Bool)
      → before ≡ kind_of last → adds ≡ (eqb (get_or kinds i 0) name_kind && eqb before (kind_of (key k)))
      → Grows names adds (get_or places i 0) (get_or values i 0) after → Titles file titles names
      → (is_key k last ≡ true → length titles < most_methods)
      → Titles file (titles ++ added (is_key k last) (token_at ts i).lexeme) after
  grown_at k last adds e f d t r =
      grown adds (is_key k last) (token_at ts i).lexeme d t (rw (kind_name, kind_key k last, ← kind_at h i, ← e) f) r
      (name_stands h i l)

-- The variables of a file: those passed, and those of the tokens that are left

pub record Listing (file : List ℕ) (ts : List Token) (vars : Names) (before i : ℕ) : Type 0 where
  pub last : Lexeme
  pub known : before ≡ kind_of last
  pub titles : List (List ℕ)
  pub so_far : titles_of ts ≡ titles ++ titles_from last (drop i ts)
  pub held : Titles file titles vars
  pub few : Few ts i last (length titles) 0

pub listing_first : (file : List ℕ) (ts : List Token) (vars : Names) → Titles file [] vars
    → Listing file ts vars number_kind 0
unfolding titles_of kind_of
listing_first file ts vars t =
    record { last = number 0; known = refl; titles = []; so_far = refl; held = t; few = few_first ts }

pub listing_next : {file : List ℕ} {ts : List Token} {kinds values places : List ℕ} → Words file ts kinds values places
    → past_limit 0 0 0 0 ts ≡ none
    → {vars vars' : Names} {before i : ℕ} (adds : Bool) → Listing file ts vars before i → i < length kinds
    → adds ≡ (eqb (get_or kinds i 0) name_kind && eqb before (kind_of (key k_var)))
    → Grows vars adds (get_or places i 0) (get_or values i 0) vars'
    → Listing file ts vars' (get_or kinds i 0) (i + 1)
listing_next {ts = ts} h n {i = i} adds s l e d =
    let t = token_at ts i in
    let b = is_key k_var s.last in
    record {
      last = t.lexeme;
      known = kind_at h i;
      titles = s.titles ++ added b t.lexeme;
      so_far = s.so_far ∙ rw (here h i l, titles_token s.last t.at t.lexeme (drop (i + 1) ts), append_assoc);
      held = grown_at h i l k_var s.last adds s.known e d s.held
          (room b _ _ most_vars s.few.vars s.few.few_vars (omega arith));
      few = few_next h n _ 0 s.few l (rw length-append (omega (arith, added_few b t.lexeme (length s.titles))))
          (omega arith);
    }

pub listing_last : {file : List ℕ} {ts : List Token} {kinds values places : List ℕ} → Words file ts kinds values places
    → {vars : Names} {before i : ℕ} → Listing file ts vars before i → length kinds ≤ i → Titles file (titles_of ts) vars
unfolding titles_from
listing_last h {i = i} s l = rw (s.so_far, at_end_lem h i l, append-nil) s.held

-- The operands, filled as far as an index

module _ {file : List ℕ} {ts : List Token} {kinds values places : List ℕ} (h : Words file ts kinds values places)
    (first now : List ℕ)
    (long : length first ≡ length ts) (i : ℕ) where
  abbrev value : Token → ℕ
  value t = slot_or_value (titles_of ts) t.lexeme

  module _ (l : i < length kinds) (so_far : now ≡ map value (take i ts) ++ drop i first) where
    front_long : length (map value (take i ts)) ≡ i
    front_long = length-map (take i ts) value ∙ length-take-le i ts (omega (arith, kinds_long h))

    pub resolved_next : {vars : Names} {r : ℕ} → Titles file (titles_of ts) vars
        → ((titles : List (List ℕ)) (l : Lexeme) → Titles file titles vars → get_or kinds i 0 ≡ kind_of l
        → get_or values i 0 ≡ value_of l
        → ((x : List ℕ) → l ≡ name x → NameAt file x (get_or places i 0) (get_or values i 0)) → r ≡ slot_or_value titles l)
        → set now i r ≡ map value (take (i + 1) ts) ++ drop (i + 1) first
    resolved_next {r = r} t d =
        let e : r ≡ value (token_at ts i) =
        d (titles_of ts) (token_at ts i).lexeme t (kind_at h i) (value_at h i) (name_stands h i l) in
        let f = map value (take i ts) in
        ap (λ (v : List ℕ). set v i r)
        (so_far ∙ ap (λ (r : List ℕ). f ++ r) (rest_at first i 0 (omega (arith, kinds_long h))))
        ∙ set_at f (get_or first i 0) (drop (i + 1) first) r i front_long
        ∙ rw (front_more h i l, map-append, append_snoc, e)

  pub resolved_last : length kinds ≤ i → now ≡ map value (take i ts) ++ drop i first → Resolved ts now
  unfolding Resolved
  resolved_last l e =
      e ∙ rw (
        take_all i ts (omega (arith, kinds_long h)),
        drop_of_length-le first {i = i} (omega (arith, kinds_long h)),
        append-nil,
      )

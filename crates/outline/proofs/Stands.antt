-- What stands behind some lexemes of a file, by the numbers that hold its tokens: the token's number is how many stand
-- before it. So a keyword, a name, what is between two tokens, and what closes.
use Prim.Native.Nat.{ℕ, ◌+◌}
use native.Mathlib.Omega.{arith}
use mathlib.Core.Path.{◌≡◌, refl, sym, ap, ◌∙◌}
use mathlib.Core.List.{List, [], ◌∷◌, ◌++◌, map, map-append, append_assoc}
use lib.ListN.{length, get_or, take, drop, length-append, length-map}
use lib.Seq.{get_or_at, take_at, drop_at}
use Rattle.logic.proofs.Bools.{different}
use Rattle.syntax.specs.Token.{Lexeme, name, key, Keyword, Token, lexemes}
use Rattle.syntax.specs.Held.Kind.{kind_of, value_of, Words}
use Rattle.meaning.specs.Outline.{TokenAt, NameAt, Between}
use Rattle.meaning.proofs.GrammarPlace.{cut}
use Rattle.meaning.proofs.KeywordPlaces.{times}
use Rattle.layout.specs.Closing.{close_from}
use Rattle.layout.proofs.Closes.{Balanced, close_length}
use Rattle.layout.proofs.Same.{kinds_are, lexemes_length}
use Rattle.outline.specs.Found.{nth_of, count_of}
use Rattle.outline.specs.Slices.{name_in, between_in}
use Rattle.outline.proofs.Found.{nth_stands, count_times}

-- a number of the token behind some lexemes
held : (f : Token → ℕ) (ts front back : List Token) (t : Token) (pre : List Lexeme) → ts ≡ front ++ (t ∷ back)
    → lexemes front ≡ pre → get_or (map f ts) (length pre) 0 ≡ f t
held f ts front back t pre w p =
    rw (w, map-append f front (t ∷ back))
    (get_or_at (map f front) (f t) (map f back) 0 (length pre)
    (length-map front f ∙ sym (lexemes_length front) ∙ ap length p))

token_here : (ts : List Token) (pre : List Lexeme) (l : Lexeme) (ls : List Lexeme) → lexemes ts ≡ pre ++ (l ∷ ls)
    → TokenAt ts pre l (get_or (map (λ (t : Token). t.at) ts) (length pre) 0)
unfolding lexemes
token_here ts pre l ls e = let c = cut ts pre (l ∷ ls) e in go c.front c.back c.whole c.passed c.left
  where
    go : (front back : List Token) → ts ≡ front ++ back → lexemes front ≡ pre → lexemes back ≡ l ∷ ls
        → TokenAt ts pre l (get_or (map (λ (t : Token). t.at) ts) (length pre) 0)
    go front [] w p q = different (cc)
    go front (t ∷ back) w p q =
        record {
          front = front;
          back = back;
          token = t;
          whole = w;
          passed = p;
          is = cc;
          place = sym (held (λ (u : Token). u.at) ts front back t pre w p);
        }

module _ {file : List ℕ} {ts : List Token} {kinds values places : List ℕ}
    (words : Words file ts kinds values places) where
  token_at : (pre : List Lexeme) (l : Lexeme) (ls : List Lexeme) → lexemes ts ≡ pre ++ (l ∷ ls) → (n : ℕ)
      → n ≡ length pre → TokenAt ts pre l (get_or places n 0)
  token_at pre l ls e n h = rw (words.by_place, h) (token_here ts pre l ls e)

  -- a name
  pub name_at : (pre : List Lexeme) (x : List ℕ) (ls : List Lexeme) → lexemes ts ≡ pre ++ (name x ∷ ls) → (n : ℕ)
      → n ≡ length pre → NameAt ts pre x (name_in values places n).from (name_in values places n).to
  unfolding name_in value_of
  name_at pre x ls e n h =
      let t = token_at pre (name x) ls e n h in
      let value : get_or values n 0 ≡ value_of (name x) =
      rw (words.by_value, h) (held (λ (u : Token). value_of u.lexeme) ts t.front t.back t.token pre
      t.whole t.passed ∙ ap value_of t.is) in
      record { stands = t; behind = ap (λ (v : ℕ). get_or places n 0 + v) value }

  -- what is between two tokens
  pub between_at : (pre : List Lexeme) (opener : Lexeme) (size : ℕ) (part : List Lexeme) (closer : Lexeme)
      (ls : List Lexeme) → lexemes ts ≡ pre ++ (opener ∷ (part ++ (closer ∷ ls))) → (n c : ℕ) → n ≡ length pre
      → c ≡ length pre + 1 + length part
      → Between ts pre opener size part closer (between_in places n size c).from (between_in places n size c).to
  unfolding between_in
  between_at pre opener size part closer ls e n c p q =
      record {
        opened = get_or places n 0;
        opens = token_at pre opener (part ++ (closer ∷ ls)) e n p;
        begins = refl;
        closes =
            let l = length-append pre (opener ∷ part) in
            token_at (pre ++ (opener ∷ part)) closer ls
            (e ∙ sym (append_assoc pre (opener ∷ part) (closer ∷ ls))) c (omega arith);
      }

  -- a keyword, by how many of it stand before
  pub keyword_at : (k : Keyword) (pre ls : List Lexeme) → lexemes ts ≡ pre ++ (key k ∷ ls) → (n : ℕ) → times k pre ≡ n
      → nth_of (kind_of (key k)) n kinds ≡ length pre
  keyword_at k pre ls e n h = rw (kinds_are words, e, ← h) (nth_stands k pre ls)

  -- the name behind a keyword
  pub name_behind : (k : Keyword) (pre : List Lexeme) (x : List ℕ) (ls : List Lexeme)
      → lexemes ts ≡ pre ++ (key k ∷ name x ∷ ls) → (n : ℕ) → times k pre ≡ n
      → NameAt ts (pre ++ (key k ∷ [])) x (name_in values places (nth_of (kind_of (key k)) n kinds + 1)).from
      (name_in values places (nth_of (kind_of (key k)) n kinds + 1)).to
  name_behind k pre x ls e n h =
      name_at (pre ++ (key k ∷ [])) x ls (e ∙ sym (append_assoc pre (key k ∷ []) (name x ∷ ls)))
      (nth_of (kind_of (key k)) n kinds + 1)
      (let a = keyword_at k pre (name x ∷ ls) e n h in let l = length-append pre (key k ∷ []) in omega arith)

  -- how many of a keyword stand before a token, and in the file
  pub count_at : (k : Keyword) (pre ls : List Lexeme) → lexemes ts ≡ pre ++ ls → (n : ℕ) → n ≡ length pre
      → count_of (kind_of (key k)) (take n kinds) ≡ times k pre
  count_at k pre ls e n h =
      rw (
        kinds_are words,
        e,
        map-append kind_of pre ls,
        take_at (map kind_of pre) (map kind_of ls) n (length-map pre kind_of ∙ sym h),
      ) (count_times k pre)

  -- what closes, behind balanced lexemes
  pub closes_at : (o c : ℕ) (pre w us : List Lexeme) (z : Lexeme) → Balanced o c w → (kind_of z ≡ o → ⊥) → kind_of z ≡ c
      → lexemes ts ≡ pre ++ (w ++ (z ∷ us)) → (at : ℕ) → at ≡ length pre
      → at + close_from o c 0 (drop at kinds) ≡ length pre + length w
  closes_at o c pre w us z balanced other closer e at h =
      let l : close_from o c 0 (drop at kinds) ≡ length w =
      rw (kinds_are words) (close_length o c at (lexemes ts) w us z balanced other closer
      (rw e (drop_at pre (w ++ (z ∷ us)) at (sym h)))) in
      omega arith

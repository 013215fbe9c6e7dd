-- The tokens of a file from a place on, by the cursor's step there.
use Prim.Native.Nat.{ℕ, zero, suc, ◌+◌, ◌-◌, ◌≤◌, ◌<◌}
use mathlib.Core.Path.{◌≡◌, refl, sym, ap, ◌∙◌}
use mathlib.Core.Bool.{false}
use mathlib.Core.List.{List, [], ◌∷◌, ◌++◌, map, append-nil, append_assoc}
use native.Mathlib.Nat.{add-zero}
use native.Mathlib.Omega.{arith}
use lib.ListN.{length, take, drop, get_or, set, length-append, length-drop, drop_of_length-le}
use lib.Seq.{drop-drop, take-suc-set, drop-set-lt}
use borrow.Author.Tests.{lt-ltb, le-ltb}
use Rattle.syntax.specs.Bytes.{blank}
use Rattle.syntax.specs.Decide.Leading.{leading}
use Rattle.syntax.specs.Token.{Lexeme, Token}
use Rattle.syntax.specs.Decide.Scan.{Scan, nothing, found, scan, Tokens, tokens, none_at, prepend, tokens_from, tokenize}
use Rattle.scanner.specs.Step.{step_of, step_at}
use Rattle.tokens.specs.Coded.{lexeme_code, code_of, Within, Coded, scanned_as, scanned_of, SameBehind}
use Rattle.tokens.specs.Coded.{TokensWritten, Scans}
use Rattle.syntax.specs.Held.Kind.{kind_of, value_of}
use Rattle.scanner.specs.declared.Step.{Step}
use Rattle.std.specs.Prelude.{Ok, Err}
use Rattle.tokens.specs.declared.ScanError.TheVariants.{TooLong, NoToken}
use Rattle.scanner.proofs.FirstElement.{by_cases, leading_none, leading_stop, leading_more}
use Rattle.tokens.proofs.Coding.{Found, missing, there, found_at}

-- bytes that are passed over
pass : (at n : ℕ) (bs : List ℕ) → tokens_from at n bs ≡ tokens_from (at + n) 0 (drop n bs)
unfolding tokens_from
pass at zero [] = refl
pass at (suc n) [] = refl
pass at zero (b ∷ bs) = rw add-zero
pass at (suc n) (b ∷ bs) =
    let e : at + 1 + n ≡ at + suc n = omega arith in
    pass (at + 1) n bs ∙ rw e

-- blanks are passed over
blanks : (at : ℕ) (bs : List ℕ) → tokens_from at 0 bs ≡ tokens_from (at + leading blank bs) 0 (drop (leading blank bs) bs)
unfolding tokens_from
blanks at [] = rw leading_none
blanks at (b ∷ bs) =
    by_cases (blank b)
    (λ t.
    let e : at + 1 + leading blank bs ≡ at + suc (leading blank bs) = omega arith in
    rw (leading_more blank b bs t) (rw (tokens_from, t) (blanks (at + 1) bs ∙ rw e)))
    (λ f. rw (leading_stop blank b bs f, add-zero))

-- behind them stands no blank
no_blank : (bs : List ℕ) → 0 < length (drop (leading blank bs) bs) → blank (get_or (drop (leading blank bs) bs) 0 0)
    ≡ false
no_blank [] h = absurd (omega (arith, rw leading_none at h))
no_blank (b ∷ bs) h =
    by_cases (blank b)
    (λ t. rw (leading_more blank b bs t) (no_blank bs (rw (leading_more blank b bs t) at h)))
    (λ f. rw (leading_stop blank b bs f) f)

module _ (s : ℕ) where
  tokens_none : (bs : List ℕ) → 0 < length bs → blank (get_or bs 0 0) ≡ false → scan bs ≡ nothing → tokens_from s 0 bs
      ≡ none_at s
  unfolding tokens_from
  tokens_none [] h f e = absurd (omega arith)
  tokens_none (b ∷ bs) h f e = rw (tokens_from, f, e)

  tokens_found : (bs : List ℕ) (l : Lexeme) (n : ℕ) → 0 < length bs → 1 ≤ n → blank (get_or bs 0 0) ≡ false
      → scan bs ≡ found l n
      → tokens_from s 0 bs ≡ prepend s l (tokens_from (s + n) 0 (drop n bs))
  unfolding tokens_from
  tokens_found [] l n h k f e = absurd (omega arith)
  tokens_found (b ∷ bs) l zero h k f e = absurd (omega arith)
  tokens_found (b ∷ bs) l (suc n) h k f e =
      let back : suc n - 1 ≡ n = omega arith in
      let on : s + 1 + n ≡ s + suc n = omega arith in
      rw (tokens_from, f, e) (ap (prepend s l) (rw back (pass (s + 1) n bs ∙ rw on)))

pub tokens_end : (file : List ℕ) (at : ℕ) → length file ≤ at → tokens_from at 0 (drop at file) ≡ tokens []
unfolding tokens_from
tokens_end file at h = rw drop_of_length-le

-- what a step that found a token says: the lexeme, that the cursor moved on within the file, how the token is held, and
-- what is left
pub record Taken (file : List ℕ) (at : ℕ) (st : Step) : Type 0 where
  pub lexeme : Lexeme
  pub ahead : at < st.next.at
  pub inside : st.start < length file
  pub held_as : code_of file st.token ≡ lexeme_code lexeme
  pub words : Within file st.token
  pub rest : tokens_from at 0 (drop at file)
      ≡ prepend st.start lexeme (tokens_from st.next.at 0 (drop st.next.at file))

module _ (file : List ℕ) (at : ℕ) where
  start : ℕ
  start = at + leading blank (drop at file)

  to_start : tokens_from at 0 (drop at file) ≡ tokens_from start 0 (drop start file)
  unfolding start
  to_start = blanks at (drop at file) ∙ rw drop-drop

  no_blank_there : start < length file → blank (get_or (drop start file) 0 0) ≡ false
  unfolding start
  no_blank_there h =
      rw drop-drop at (no_blank (drop at file) (rw drop-drop (omega (arith, length-drop start file))))

  taken_from : {c : Scan} → scan (drop start file) ≡ c → Found file start c
      → ((step_of start c).next.at ≡ (step_of start c).start → ⊥)
      → Taken file at (step_of start c)
  unfolding start step_of
  taken_from e missing n = absurd (n refl)
  taken_from e (there l n k i w q) d =
      record {
        lexeme = l;
        ahead = omega arith;
        inside = omega arith;
        held_as = q;
        words = w;
        rest =
            to_start
            ∙ tokens_found start (drop start file) l n (omega (arith, length-drop start file)) k
            (no_blank_there (omega arith)) e
            ∙ rw drop-drop;
      }

  ended_from : {c : Scan} → Found file start c → (step_of start c).next.at ≡ (step_of start c).start
      → (c ≡ nothing) × ((step_of start c).start ≡ start)
  unfolding step_of
  ended_from missing e = (refl, refl)
  ended_from (there l n k i w q) e = absurd (omega arith)

  pub taken : ((step_at file at).next.at ≡ (step_at file at).start → ⊥) → Taken file at (step_at file at)
  unfolding step_at start
  taken n = taken_from refl (found_at file start) n

  pub ended_bad : (step_at file at).next.at ≡ (step_at file at).start → (step_at file at).start < length file
      → tokens_from at 0 (drop at file) ≡ none_at (step_at file at).start
  unfolding step_at start
  ended_bad e h =
      let q = ended_from (found_at file start) e in
      let i : start < length file = omega (arith, q.1) in
      rw q.1 (to_start ∙ tokens_none start (drop start file) (omega (arith, length-drop start file))
      (no_blank_there i) q.0)

  -- it stands at or behind the place from which it was looked for
  pub ended_behind : at ≤ (step_at file at).start
  unfolding step_at start step_of
  ended_behind = go (scan (drop start file))
    where
      go : (c : Scan) → at ≤ (step_of start c).start
      go nothing = omega arith
      go (found l n) = omega arith

  pub ended_all : (step_at file at).next.at ≡ (step_at file at).start → length file ≤ (step_at file at).start
      → tokens_from at 0 (drop at file) ≡ tokens []
  unfolding step_at start
  ended_all e h = to_start ∙ tokens_end file start (omega (arith, (ended_from (found_at file start) e).1))

-- tokens in front of those of what is left
pub after : List Token → Tokens → Tokens
after ts (tokens us) = tokens (ts ++ us)
after ts (none_at k) = none_at k

after_none : (r : Tokens) → r ≡ after [] r
unfolding after
after_none (tokens us) = refl
after_none (none_at k) = refl

after_more : (ts : List Token) (at : ℕ) (l : Lexeme) (r : Tokens)
    → after ts (prepend at l r) ≡ after (ts ++ record { at = at; lexeme = l } ∷ []) r
unfolding after prepend
after_more ts at l (tokens us) = ap tokens (sym (append_assoc ts (record { at = at; lexeme = l } ∷ []) us))
after_more ts at l (none_at k) = refl

map_more : (f : Token → ℕ) (ts : List Token) (t : Token) → map f (ts ++ t ∷ []) ≡ map f ts ++ f t ∷ []
map_more f [] t = refl
map_more f (u ∷ ts) t = ap (λ (r : List ℕ). f u ∷ r) (map_more f ts t)

-- one more token, written at the place behind those that are held
held_more : (f : Token → ℕ) (ts : List Token) (t : Token) (xs : List ℕ) → take (length ts) xs ≡ map f ts
    → length ts < length xs
    → take (length (ts ++ t ∷ [])) (set xs (length ts) (f t)) ≡ map f (ts ++ t ∷ [])
held_more f ts t xs e h =
    let n : length (ts ++ t ∷ []) ≡ suc (length ts) = omega (arith, length-append ts (t ∷ [])) in
    rw (n, take-suc-set xs (length ts) (f t) h, e) (sym (map_more f ts t))

-- one more number, written at the place behind those that are written
kept_more : (n v : ℕ) (xs₀ xs : List ℕ) → drop n xs ≡ drop n xs₀ → drop (n + 1) (set xs n v) ≡ drop (n + 1) xs₀
kept_more n v xs₀ xs e =
    drop-set-lt (n + 1) xs n v (omega arith) ∙ sym (drop-drop 1 n xs) ∙ ap (λ (r : List ℕ). drop 1 r) e
    ∙ drop-drop 1 n xs₀

-- the tokens so far: their numbers are held, those behind are as they were lent, and with the tokens of what is left
-- they are the file's
pub record Held (file kinds₀ values₀ places₀ kinds values places : List ℕ) (n at : ℕ) : Type 0 where
  pub held : List Token
  pub count : length held ≡ n
  pub coded : Coded held kinds values places
  pub kept : SameBehind n kinds₀ values₀ places₀ kinds values places
  pub whole : tokenize file ≡ after held (tokens_from at 0 (drop at file))
  pub behind : n ≤ at

same : {kinds values places : List ℕ} (n : ℕ) → SameBehind n kinds values places kinds values places
same n = record { in_kinds = refl; in_values = refl; in_places = refl }

pub held_none : (file kinds values places : List ℕ) → Held file kinds values places kinds values places 0 0
unfolding tokenize
held_none file kinds values places =
    record {
      held = [];
      count = refl;
      coded = record { by_kind = refl; by_value = refl; by_place = refl };
      kept = same 0;
      whole = after_none (tokens_from 0 0 file);
      behind = omega arith;
    }

in_bounds : (file : List ℕ) → length file ≤ 8192 → scanned_of file ≡ scanned_as (tokenize file)
unfolding scanned_of
in_bounds file h = rw (scanned_of, le-ltb 8192 (length file) h)

module _ (file kinds₀ values₀ places₀ kinds values places : List ℕ) (n at : ℕ)
    (h : Held file kinds₀ values₀ places₀ kinds values places n at) where
  pub held_one : (st : Step) → Taken file at st → n < length kinds → n < length values → n < length places
      → Held file kinds₀ values₀ places₀ (set kinds n (code_of file st.token).kind)
      (set values n (code_of file st.token).value) (set places n st.start) (n + 1) st.next.at
  held_one st t lk lv lp =
      let new : Token = record { at = st.start; lexeme = t.lexeme } in
      record {
        held = h.held ++ new ∷ [];
        count = omega (arith, h.count, length-append h.held (new ∷ []));
        coded =
            record {
              by_kind =
                  rw (t.held_as, ← h.count) (held_more (λ t. kind_of t.lexeme) h.held new kinds
                  h.coded.by_kind (omega arith));
              by_value =
                  rw (t.held_as, ← h.count) (held_more (λ t. value_of t.lexeme) h.held new values
                  h.coded.by_value (omega arith));
              by_place =
                  rw (← h.count) (held_more (λ t. t.at) h.held new places h.coded.by_place (omega arith));
            };
        kept =
            record {
              in_kinds = kept_more n _ kinds₀ kinds h.kept.in_kinds;
              in_values = kept_more n _ values₀ values h.kept.in_values;
              in_places = kept_more n _ places₀ places h.kept.in_places;
            };
        whole = h.whole ∙ ap (after h.held) t.rest ∙ after_more h.held st.start t.lexeme _;
        behind = omega (arith, h.behind, t.ahead);
      }

  module _ (short : length file ≤ 8192) where
    pub scans_all : tokens_from at 0 (drop at file) ≡ tokens []
        → Scans file (Ok n) kinds₀ values₀ places₀ kinds values places
    unfolding after scanned_as TokensWritten
    scans_all e =
        let whole : tokenize file ≡ tokens h.held = h.whole ∙ ap (after h.held) e
        ∙ ap tokens (append-nil h.held) in
        record {
          answer = sym (in_bounds file short ∙ ap scanned_as whole ∙ ap Ok h.count);
          coded = λ ts _ q. let same : h.held ≡ ts = cc in rw same at h.coded;
          written = n;
          how_many_is = refl;
          kept = h.kept;
        }

    pub scans_bad : (k : ℕ) → at ≤ k → tokens_from at 0 (drop at file) ≡ none_at k
        → Scans file (Err (NoToken k)) kinds₀ values₀ places₀ kinds values places
    unfolding after scanned_as TokensWritten
    scans_bad k l e =
        let whole : tokenize file ≡ none_at k = h.whole ∙ ap (after h.held) e in
        record {
          answer = sym (in_bounds file short ∙ ap scanned_as whole);
          coded = λ ts _ q. let z : ◌≡◌ {A = ℕ} 0 1 = cc in absurd (omega arith);
          written = n;
          how_many_is = omega (arith, h.behind);
          kept = h.kept;
        }

pub scans_long : (file kinds values places : List ℕ) → 8192 < length file
    → Scans file (Err TooLong) kinds values places kinds values places
unfolding scanned_of TokensWritten
scans_long file kinds values places h =
    let long : scanned_of file ≡ Err TooLong = rw (scanned_of, lt-ltb 8192 (length file) h) in
    record {
      answer = sym long;
      coded = λ ts q _. let z : ◌≡◌ {A = ℕ} 0 1 = cc in absurd (omega arith);
      written = 0;
      how_many_is = refl;
      kept = same 0;
    }

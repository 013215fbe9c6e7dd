-- A region and the methods among the tokens: where the guard and the body stand, what stands behind, and the flags of
-- regions.
use Prim.Native.Nat.{ℕ, ◌+◌, ◌<◌}
use native.Mathlib.Omega.{arith}
use native.Mathlib.Nat.{add-zero}
use mathlib.Core.Path.{◌≡◌, refl, sym, ap, ◌∙◌}
use mathlib.Core.List.{List, [], ◌∷◌, ◌++◌, map, append_assoc}
use lib.ListN.{length, drop, get_or}
use lib.Seq.{drop-drop, get_or-drop}
use lib.Dec.{eqb}
use Rattle.syntax.specs.Token.{Token, lexemes, Lexeme, key, mark, lbrace, rbrace, rparen, k_waituntil}
use Rattle.syntax.specs.Decide.Lexeme.{mark_number}
use Rattle.syntax.specs.Held.Kind.{kind_of, no_kind, Words}
use Rattle.syntax.specs.Tree.{Region, spell_cond, spell_block, spell_region}
use Rattle.logic.specs.Tests.{bit}
use Rattle.layout.specs.Places.{to_guard, to_body, past}
use Rattle.layout.specs.Laid.{RegionAt}
use Rattle.layout.specs.Promises.{flag_at}
use Rattle.layout.proofs.Closes.{kinds_from, close_stands, stands_below}
use Rattle.layout.proofs.Closes.{open_bracket, shut_bracket, open_brace, shut_brace, bracket_end, brace_end}
use Rattle.layout.proofs.Same.{kinds_are}
use Rattle.layout.proofs.Trees.{brackets_balanced, braces_balanced}

-- some tokens on
pub later : (n at : ℕ) (ls us : List Lexeme) → drop at ls ≡ us → drop (at + n) ls ≡ drop n us
later n at ls us h = sym (drop-drop n at ls) ∙ ap (drop n) h

-- the kind at a token is that of what stands there
pub kind_stands : (at : ℕ) (ls us : List Lexeme) → drop at ls ≡ us
    → get_or (map kind_of ls) at no_kind ≡ get_or (map kind_of us) 0 no_kind
kind_stands at ls us h =
    ap (λ (k : ℕ). get_or (map kind_of ls) k no_kind) (sym (add-zero at)) ∙ sym (get_or-drop at (map kind_of ls) 0 no_kind)
    ∙ ap (λ (ks : List ℕ). get_or ks 0 no_kind) (kinds_from at ls ∙ ap (map kind_of) h)

-- where the body of a region at a token begins, and where what is behind the region does
abbrev pub body_of : List ℕ → ℕ → ℕ
body_of kinds at = at + to_guard + bracket_end (drop (at + to_guard) kinds) + to_body

abbrev pub next_of : List ℕ → ℕ → ℕ
next_of kinds at = body_of kinds at + brace_end (drop (body_of kinds at) kinds) + past

pub record Spelled (ls : List Lexeme) (kinds : List ℕ) (at : ℕ) (q : Region) (us : List Lexeme) : Type 0 where
  pub stands : RegionAt ls q (at + to_guard) (body_of kinds at)
  pub behind : drop (next_of kinds at) ls ≡ us
  pub guard_low : at + to_guard < length ls
  pub body_low : body_of kinds at < length ls

spelled_kinds : (ls : List Lexeme) (at : ℕ) (q : Region) (us : List Lexeme) → drop at ls ≡ spell_region q ++ us
    → Spelled ls (map kind_of ls) at q us
unfolding spell_region kind_of mark_number
spelled_kinds ls at q us h =
    let kinds = map kind_of ls in
    let behind_body = mark rbrace ∷ us in
    let behind_guard = mark lbrace ∷ (spell_block q.body ++ behind_body) in
    let guard : drop (at + to_guard) ls ≡ spell_cond q.guard ++ (mark rparen ∷ behind_guard) =
    later to_guard at ls _ h ∙ append_assoc (spell_cond q.guard)
    (mark rparen ∷ mark lbrace ∷ (spell_block q.body ++ (mark rbrace ∷ []))) us
    ∙ ap (λ (x : List Lexeme). spell_cond q.guard ++ (mark rparen ∷ mark lbrace ∷ x))
    (append_assoc (spell_block q.body) (mark rbrace ∷ []) us) in
    let bracket = close_stands open_bracket shut_bracket (at + to_guard) ls (spell_cond q.guard) behind_guard
    (mark rparen)
    (brackets_balanced q.guard) (λ e. omega arith) refl guard in
    let body : drop (body_of kinds at) ls ≡ spell_block q.body ++ behind_body =
    later to_body (at + to_guard + bracket_end (drop (at + to_guard) kinds)) ls _ bracket in
    let brace = close_stands open_brace shut_brace (body_of kinds at) ls (spell_block q.body) us (mark rbrace)
    (braces_balanced q.body) (λ e. omega arith) refl body in
    record {
      stands = record { behind_guard = behind_guard; behind_body = us; guard_stands = guard; body_stands = body };
      behind = later past (body_of kinds at + brace_end (drop (body_of kinds at) kinds)) ls _ brace;
      guard_low =
          let e = stands_below (at + to_guard) ls (spell_cond q.guard) behind_guard (mark rparen) guard in omega arith;
      body_low = let e = stands_below (body_of kinds at) ls (spell_block q.body) us (mark rbrace) body in omega arith;
    }

module _ {file : List ℕ} {ts : List Token} {kinds values places : List ℕ}
    (words : Words file ts kinds values places) where
  pub spelled : (at : ℕ) (q : Region) (us : List Lexeme) → drop at (lexemes ts) ≡ spell_region q ++ us
      → Spelled (lexemes ts) kinds at q us
  spelled at q us h = rw (kinds_are words) (spelled_kinds (lexemes ts) at q us h)

  pub kind_behind : (at : ℕ) (us : List Lexeme) → drop at (lexemes ts) ≡ us
      → get_or kinds at no_kind ≡ get_or (map kind_of us) 0 no_kind
  kind_behind at us h = rw (kinds_are words) (kind_stands at (lexemes ts) us h)

  pub flag_behind : (at : ℕ) (us : List Lexeme) → drop at (lexemes ts) ≡ us → flag_at kinds at ≡ flag_at (map kind_of us) 0
  unfolding flag_at
  flag_behind at us h = ap (λ (k : ℕ). bit (eqb k (kind_of (key k_waituntil)))) (kind_behind at us h)

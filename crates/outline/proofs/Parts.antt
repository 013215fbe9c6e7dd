-- The parts of a file among its tokens: what stands before each, and that the slices alone give where its name, its
-- condition, its guard and its body are.
use Prim.Native.Nat.{ℕ, ◌+◌}
use native.Mathlib.Omega.{arith}
use mathlib.Core.Path.{◌≡◌, refl, sym, ap, ◌∙◌}
use mathlib.Core.List.{List, [], ◌∷◌, ◌++◌, append_assoc}
use lib.ListN.{length, length-append}
use Rattle.syntax.specs.Token.{Lexeme, key, mark, lbrace, rbrace, lparen, rparen, semicolon, Token, lexemes}
use Rattle.syntax.specs.Token.{Keyword, k_monitor, k_var, k_keep, k_method, k_waituntil, k_try}
use Rattle.syntax.specs.Decide.Lexeme.{mark_number}
use Rattle.syntax.specs.Held.Kind.{kind_of, no_kind, Words}
use Rattle.syntax.specs.Tree.{Cond, Region, Method, Var, Monitor, all, each, spell, spell_cond, spell_block}
use Rattle.syntax.specs.Tree.{spell_region, spell_method, spell_var}
use Rattle.meaning.specs.Runs.{regions_of}
use Rattle.meaning.specs.Outline.{Between, TitleAt, KeepAt, TryAt, VariableAt}
use Rattle.meaning.specs.Outline.{MethodAt, GuardAt, BodyAt}
use Rattle.meaning.proofs.KeywordPlaces.{times, spell_from, up_to_var, up_to_keep}
use Rattle.meaning.proofs.KeywordCounts.{try_number, method_number, regions_before, region_number}
use Rattle.layout.proofs.Closes.{open_bracket, shut_bracket, open_brace, shut_brace, semicolon_kind}
use Rattle.layout.proofs.Trees.{brackets_balanced, braces_balanced, semicolons_balanced}
use Rattle.outline.specs.Found.{nth_of}
use Rattle.outline.specs.Slices.{name_in, condition_in, method_in, region_in, bracket_at, brace_at}
use Rattle.outline.proofs.Stands.{name_at, between_at, keyword_at, name_behind, count_at, closes_at}
use Rattle.meaning.specs.Before.{up_to, up_to_try, up_to_method, up_to_region}
use Rattle.meaning.proofs.FromPart.{behind, from_keep, from_try, from_method, from_region, region_parts}

-- Where the parts are

module _ {file : List ℕ} {ts : List Token} {kinds values places : List ℕ}
    (words : Words file ts kinds values places) (m : Monitor) (spelt : lexemes ts ≡ spell m) where
  pub title_is : TitleAt ts m (name_in values places 1).from (name_in values places 1).to
  unfolding TitleAt spell
  title_is = name_at words (key k_monitor ∷ []) m.title _ spelt 1 refl

  -- the condition behind a word that stands behind as many
  condition_is : (k : Keyword) (pre : List Lexeme) (c : Cond) (us : List Lexeme) (n size : ℕ)
      → lexemes ts ≡ pre ++ (key k ∷ (spell_cond c ++ (mark semicolon ∷ us))) → times k pre ≡ n
      → Between ts pre (key k) size (spell_cond c) (mark semicolon)
      (condition_in kinds places (kind_of (key k)) n size).from (condition_in kinds places (kind_of (key k)) n size).to
  unfolding condition_in kind_of mark_number
  condition_is k pre c us n size e count =
      let w = spell_cond c in
      let at = keyword_at words k pre (w ++ (mark semicolon ∷ us)) e n count in
      let long = length-append pre (key k ∷ []) in
      let end = closes_at words no_kind semicolon_kind (pre ++ (key k ∷ [])) w us (mark semicolon)
      (semicolons_balanced c) (λ z. omega arith) refl
      (e ∙ sym (append_assoc pre (key k ∷ []) (w ++ (mark semicolon ∷ us))))
      (nth_of (kind_of (key k)) n kinds + 1) (omega arith) in
      between_at words pre (key k) size w (mark semicolon) us e _ _ at (omega arith)

  pub keep_is : KeepAt ts m (condition_in kinds places (kind_of (key k_keep)) 0 4).from
      (condition_in kinds places (kind_of (key k_keep)) 0 4).to
  unfolding KeepAt
  keep_is =
      condition_is k_keep (up_to m (all m.vars)) m.keep _ 0 4 (spelt ∙ from_keep m) (up_to_keep m (all m.vars))

  pub try_is : (before : List Cond) (c : Cond) (after : List Cond) → m.tries ≡ before ++ (c ∷ after)
      → TryAt ts m before c (condition_in kinds places (kind_of (key k_try)) (length before) 3).from
      (condition_in kinds places (kind_of (key k_try)) (length before) 3).to
  unfolding TryAt
  try_is before c after e =
      condition_is k_try (up_to_try m before) c _ (length before) 3 (spelt ∙ from_try m before c after e)
      (try_number m before)

  pub variable_is : (before : List Var) (v : Var) (after : List Var) → all m.vars ≡ before ++ (v ∷ after)
      → VariableAt ts m before v (name_in values places (nth_of (kind_of (key k_var)) (length before) kinds + 1)).from
      (name_in values places (nth_of (kind_of (key k_var)) (length before) kinds + 1)).to
  unfolding VariableAt each spell_var
  variable_is before v after e =
      name_behind words k_var (up_to m before) v.title _ (spelt ∙ spell_from m before (v ∷ after) e) (length before)
      (up_to_var m before)

  -- a method's name, and its first region
  module _ (before : List Method) (x : Method) (after : List Method)
      (e : all m.methods ≡ before ++ (x ∷ after)) where
    stands_method : lexemes ts ≡ up_to_method m before ++ (spell_method x ++ behind after)
    stands_method = spelt ∙ from_method m before x after e

    pub method_is : MethodAt ts m before x (method_in kinds values places (length before)).name.from
        (method_in kinds values places (length before)).name.to
    unfolding MethodAt method_in spell_method
    method_is =
        name_behind words k_method (up_to_method m before) x.title _ stands_method (length before)
        (method_number m before)

    pub first_is : (method_in kinds values places (length before)).first ≡ length (regions_of before)
    unfolding method_in spell_method
    first_is =
        count_at words k_waituntil (up_to_method m before) _ stands_method _
        (keyword_at words k_method (up_to_method m before) _ stands_method (length before) (method_number m before))
        ∙ regions_before m before

  -- a region's guard and body
  module _ (methods : List Method) (x : Method) (later : List Method) (before : List Region) (q : Region)
      (after : List Region) (of_file : all m.methods ≡ methods ++ (x ∷ later))
      (of_method : all x.regions ≡ before ++ (q ∷ after)) where
    abbrev pre : List Lexeme
    pre = up_to_region m methods x before

    abbrev guard : List Lexeme
    guard = spell_cond q.guard

    abbrev body : List Lexeme
    body = spell_block q.body

    abbrev us : List Lexeme
    us = each spell_region after ++ (mark rbrace ∷ behind later)

    abbrev behind_guard : List Lexeme
    behind_guard = mark lbrace ∷ (body ++ (mark rbrace ∷ us))

    stands_region : lexemes ts ≡ pre ++ (key k_waituntil ∷ mark lparen ∷ (guard ++ (mark rparen ∷ behind_guard)))
    stands_region =
        spelt ∙ from_region m methods x later before q after of_file of_method
        ∙ ap (λ (ls : List Lexeme). pre ++ ls) (region_parts q us)

    abbrev number : ℕ
    number = length (regions_of methods) + length before

    abbrev opener : ℕ
    opener = nth_of (kind_of (key k_waituntil)) number kinds + 1

    opener_is : opener ≡ length pre + 1
    opener_is =
        ap (λ (n : ℕ). n + 1) (keyword_at words k_waituntil pre (mark lparen ∷ (guard ++ (mark rparen ∷ behind_guard)))
        stands_region number (region_number m methods x before))

    closer_is : bracket_at kinds (opener + 1) ≡ length pre + 2 + length guard
    unfolding kind_of mark_number
    closer_is =
        let front = key k_waituntil ∷ mark lparen ∷ [] in
        let long = length-append pre front in
        let o = opener_is in
        closes_at words open_bracket shut_bracket (pre ++ front) guard behind_guard (mark rparen)
        (brackets_balanced q.guard) (λ z. omega arith) refl
        (stands_region ∙ sym (append_assoc pre front (guard ++ (mark rparen ∷ behind_guard)))) (opener + 1)
        (omega arith)
        ∙ omega arith

    -- up to the brace that opens the body
    abbrev to_brace : List Lexeme
    to_brace = key k_waituntil ∷ mark lparen ∷ (guard ++ (mark rparen ∷ []))

    brace_long : length (pre ++ to_brace) ≡ length pre + 3 + length guard
    brace_long = simp length-append (omega arith)

    stands_brace : lexemes ts ≡ (pre ++ to_brace) ++ (mark lbrace ∷ (body ++ (mark rbrace ∷ us)))
    stands_brace = stands_region ∙ simp append_assoc

    end_is : brace_at kinds (bracket_at kinds (opener + 1) + 1 + 1) ≡ length pre + 4 + length guard + length body
    unfolding kind_of mark_number
    end_is =
        let front = (pre ++ to_brace) ++ (mark lbrace ∷ []) in
        let long = length-append (pre ++ to_brace) (mark lbrace ∷ []) in
        let b = brace_long in
        let c = closer_is in
        closes_at words open_brace shut_brace front body us (mark rbrace) (braces_balanced q.body) (λ z. omega arith)
        refl (stands_brace ∙ sym (append_assoc (pre ++ to_brace) (mark lbrace ∷ []) (body ++ (mark rbrace ∷ us))))
        (bracket_at kinds (opener + 1) + 1 + 1) (omega arith)
        ∙ omega arith

    pub guard_is : (n : ℕ) → GuardAt ts m methods x before q (region_in kinds places n number).guard.from
        (region_in kinds places n number).guard.to
    unfolding GuardAt region_in
    guard_is n =
        let long = length-append pre (key k_waituntil ∷ []) in
        let o = opener_is in
        let c = closer_is in
        between_at words (pre ++ (key k_waituntil ∷ [])) (mark lparen) 1 guard (mark rparen) behind_guard
        (stands_region ∙ sym (append_assoc pre (key k_waituntil ∷ []) (mark lparen ∷ (guard ++ (mark rparen
        ∷ behind_guard))))) opener (bracket_at kinds (opener + 1)) (omega arith) (omega arith)

    pub body_is : (n : ℕ) → BodyAt ts m methods x before q (region_in kinds places n number).body.from
        (region_in kinds places n number).body.to
    unfolding BodyAt region_in
    body_is n =
        let b = brace_long in
        let c = closer_is in
        let e = end_is in
        between_at words (pre ++ to_brace) (mark lbrace) 1 body (mark rbrace) us stands_brace
        (bracket_at kinds (opener + 1) + 1) (brace_at kinds (bracket_at kinds (opener + 1) + 1 + 1)) (omega arith)
        (omega arith)

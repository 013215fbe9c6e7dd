-- A file from each of its parts on: what a tree spells is what stands before the part, the part, and what is behind.
use mathlib.Core.Path.{◌≡◌, refl, sym, ap, ◌∙◌}
use mathlib.Core.List.{List, [], ◌∷◌, ◌++◌, append_assoc}
use Rattle.syntax.specs.Token.{Lexeme, name, key, mark, lbrace, rbrace, lparen, rparen, semicolon, k_keep, k_method}
use Rattle.syntax.specs.Token.{k_waituntil, k_try}
use Rattle.syntax.specs.Tree.{Cond, Region, Method, Monitor, all, each, spell, spell_cond, spell_block, spell_region}
use Rattle.syntax.specs.Tree.{spell_method, spell_try}
use Rattle.meaning.specs.Before.{up_to, up_to_try, up_to_method, up_to_region}
use Rattle.meaning.proofs.KeywordPlaces.{each_append}

pub each_split : {A : Type 0} (f : A → List Lexeme) (as' before : List A) (a : A) (after : List A) (us : List Lexeme)
    → as' ≡ before ++ (a ∷ after) → each f as' ++ us ≡ each f before ++ (f a ++ (each f after ++ us))
unfolding each
each_split f as' before a after us e = rw (e, each_append f before (a ∷ after)) (simp append_assoc)

-- what stands behind some methods
abbrev pub behind : List Method → List Lexeme
behind ms = each spell_method ms ++ (mark rbrace ∷ [])

pub from_keep : (m : Monitor)
    → spell m ≡ up_to m (all m.vars) ++ (key k_keep ∷ (spell_cond m.keep
    ++ (mark semicolon ∷ (each spell_try m.tries ++ behind (all m.methods)))))
unfolding spell up_to
from_keep m = refl

pub from_try : (m : Monitor) (before : List Cond) (c : Cond) (after : List Cond) → m.tries ≡ before ++ (c ∷ after)
    → spell m ≡ up_to_try m before ++ (key k_try ∷ (spell_cond c
    ++ (mark semicolon ∷ (each spell_try after ++ behind (all m.methods)))))
unfolding spell up_to_try up_to spell_try
from_try m before c after e =
    rw (each_split spell_try m.tries before c after (behind (all m.methods)) e) (simp append_assoc)

pub from_method : (m : Monitor) (before : List Method) (x : Method) (after : List Method)
    → all m.methods ≡ before ++ (x ∷ after) → spell m ≡ up_to_method m before ++ (spell_method x ++ behind after)
unfolding spell up_to_method up_to_try up_to
from_method m before x after e =
    rw (each_split spell_method (all m.methods) before x after (mark rbrace ∷ []) e) (simp append_assoc)

in_method : (x : Method) (before : List Region) (q : Region) (after : List Region) (us : List Lexeme)
    → all x.regions ≡ before ++ (q ∷ after)
    → spell_method x ++ us ≡ key k_method ∷ name x.title ∷ mark lbrace ∷ (each spell_region before
    ++ (spell_region q ++ (each spell_region after ++ (mark rbrace ∷ us))))
unfolding spell_method
in_method x before q after us e =
    ap {B = List Lexeme} (λ ls. key k_method ∷ name x.title ∷ mark lbrace ∷ ls)
    (append_assoc (each spell_region (all x.regions)) (mark rbrace ∷ []) us
    ∙ each_split spell_region (all x.regions) before q after (mark rbrace ∷ us) e)

pub from_region : (m : Monitor) (methods : List Method) (x : Method) (later : List Method) (before : List Region)
    (q : Region) (after : List Region) → all m.methods ≡ methods ++ (x ∷ later)
    → all x.regions ≡ before ++ (q ∷ after)
    → spell m ≡ up_to_region m methods x before
    ++ (spell_region q ++ (each spell_region after ++ (mark rbrace ∷ behind later)))
unfolding up_to_region
from_region m methods x later before q after e f =
    from_method m methods x later e
    ∙ ap (λ (ls : List Lexeme). up_to_method m methods ++ ls) (in_method x before q after (behind later) f)
    ∙ sym (append_assoc (up_to_method m methods)
    (key k_method ∷ name x.title ∷ mark lbrace ∷ each spell_region before)
    (spell_region q ++ (each spell_region after ++ (mark rbrace ∷ behind later))))

-- a region's parts, with something behind
pub region_parts : (q : Region) (us : List Lexeme)
    → spell_region q ++ us ≡ key k_waituntil ∷ mark lparen ∷ (spell_cond q.guard
    ++ (mark rparen ∷ mark lbrace ∷ (spell_block q.body ++ (mark rbrace ∷ us))))
unfolding spell_region
region_parts q us = simp append_assoc

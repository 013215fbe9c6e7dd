-- What stands before each part of a file that a tree spells: by it the place of a part is told.
use Rattle.std.specs.Prelude.{List, ◌∷◌, ◌++◌}
use Rattle.syntax.specs.Token.{Lexeme, name, key, mark, lbrace, semicolon, k_monitor, k_keep, k_method}
use Rattle.syntax.specs.Tree.{Cond, Region, Method, Var, Monitor, all, each, spell_cond, spell_try, spell_region, spell_method}
use Rattle.syntax.specs.Tree.{spell_var}

-- before the first of some variables, and before `keep` (R 16.4)
unfoldable pub up_to : Monitor → List Var → List Lexeme
up_to m before = key k_monitor ∷ name m.title ∷ mark lbrace ∷ each spell_var before

-- before the first of some tries, before the first of some methods, and before the first of some regions of a method
-- (R 16.4)
unfoldable pub up_to_try : Monitor → List Cond → List Lexeme
up_to_try m before =
    up_to m (all m.vars) ++ (key k_keep ∷ (spell_cond m.keep ++ (mark semicolon ∷ each spell_try before)))

unfoldable pub up_to_method : Monitor → List Method → List Lexeme
up_to_method m before = up_to_try m m.tries ++ each spell_method before

unfoldable pub up_to_region : Monitor → List Method → Method → List Region → List Lexeme
up_to_region m methods x before =
    up_to_method m methods ++ (key k_method ∷ name x.title ∷ mark lbrace ∷ each spell_region before)

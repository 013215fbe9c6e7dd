-- Where the parts of a file stand among its tokens.
use Rattle.std.specs.Prelude.{ℕ, ◌<◌, ◌≡◌, List, [], ◌∷◌, ◌++◌, length, get_or, drop}
use Rattle.std.proofs.Math.Option.{some}
use Rattle.std.proofs.Math.ListN.{get_elem?}
use Rattle.syntax.specs.Token.{Lexeme, key, mark, lbrace, rbrace, rparen, semicolon, k_keep}
use Rattle.syntax.specs.Tree.{Monitor, Region, Block, spell_cond, spell_block, spell_method, each, all}
use Rattle.logic.specs.Tests.{bit}
use Rattle.machine.specs.Held.{follows_by}
use Rattle.meaning.specs.Model.{regions, guards, region, guard_of, begins_in, follows}
use Rattle.meaning.specs.Held.{behind_keep}
use Rattle.meaning.specs.Decide.Choice.{try_at}
use Rattle.layout.specs.declared.Layout.{Layout}
use Rattle.layout.specs.declared.Tries.{Tries}

-- the token of `keep`, with all that stands behind it
unfoldable pub IsKeep : Monitor → List Lexeme → ℕ → Type 0
IsKeep m ls k = drop k ls ≡ key k_keep ∷ behind_keep m

-- the conditions of the tries, and the methods behind them, stand at these tokens
pub record TriesLaid (m : Monitor) (ls : List Lexeme) (t : Tries) : Type 0 where
  pub count : t.count ≡ length m.tries
  pub stand : (i : ℕ) → i < length m.tries
      → (us : List Lexeme) × (drop (get_or t.ats i 0) ls ≡ spell_cond (try_at m i) ++ (mark semicolon ∷ us))
  pub next : drop t.next ls ≡ each spell_method (all m.methods) ++ (mark rbrace ∷ [])

-- a region's guard and body stand at these tokens
pub record RegionAt (ls : List Lexeme) (r : Region) (guard_at body_at : ℕ) : Type 0 where
  pub behind_guard : List Lexeme
  pub behind_body : List Lexeme
  pub guard_stands : drop guard_at ls ≡ spell_cond r.guard ++ (mark rparen ∷ behind_guard)
  pub body_stands : drop body_at ls ≡ spell_block r.body ++ (mark rbrace ∷ behind_body)

pub record Laid (m : Monitor) (ls : List Lexeme) (l : Layout) : Type 0 where
  pub after_keep : List Lexeme
  pub keep_stands : drop l.keep ls ≡ spell_cond m.keep ++ (mark semicolon ∷ after_keep)
  pub region_count : l.regions ≡ length (regions m)
  pub guard_count : l.guards ≡ length (guards m)
  pub regions_stand : (r : ℕ) → r < length (regions m)
      → RegionAt ls (region m r) (get_or l.guards_at r 0) (get_or l.bodies_at r 0)
  pub guard_numbers : (r : ℕ) → r < length (regions m) → get_or l.guard_of r 0 ≡ guard_of m r
  pub first_below : (g : ℕ) → g < length (guards m) → get_or l.firsts g 0 < length (regions m)
  pub first_has : (g : ℕ) → g < length (guards m) → guard_of m (get_or l.firsts g 0) ≡ g
  pub begin_flags : (r : ℕ) → r < length (regions m) → get_or l.begins r 0 ≡ bit (begins_in (all m.methods) r)
  pub follow_flags : (r : ℕ) → r < length (regions m) → follows m r ≡ follows_by r (get_or l.goes_on r 0)

-- operands as before, but that each brace which opens a block has the token of the one that closes it
pub record Linked (ls : List Lexeme) (before after : List ℕ) : Type 0 where
  pub as_long : length after ≡ length before
  pub others : (i : ℕ) → (get_elem? ls i ≡ some (mark lbrace) → ⊥) → get_or after i 0 ≡ get_or before i 0
  pub linked :
      (i : ℕ) (b : Block) (us : List Lexeme) → drop i ls ≡ mark lbrace ∷ (spell_block b ++ (mark rbrace ∷ us))
      → drop (get_or after i 0) ls ≡ mark rbrace ∷ us

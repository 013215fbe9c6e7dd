-- What the parts of the layout's code say: tokens and guards that are the same, and a layout that holds the regions so
-- far.
use Rattle.std.specs.Prelude.{ℕ, ◌+◌, ◌<◌, ◌≤◌, ◌≡◌, Bool, List, [], ◌∷◌, ◌++◌, map, length, get_or, drop, take, set, eqb}
use Rattle.syntax.specs.Limits.{most_tokens}
use Rattle.machine.specs.Limits.{most_regions}
use Rattle.syntax.specs.Token.{Lexeme, key, mark, rbrace, rparen, k_waituntil, Token, lexemes}
use Rattle.syntax.specs.Held.Kind.{kind_of, no_kind, Words}
use Rattle.syntax.specs.Tree.{Cond, Region, Method, all, each, spell_cond, spell_region}
use Rattle.logic.specs.Tests.{bit}
use Rattle.meaning.specs.Model.{same_lexeme, same_lexemes, same_guard, place_in, guards_of, no_region}
use Rattle.layout.specs.Places.{overrun}
use Rattle.layout.specs.Laid.{RegionAt}
use Rattle.layout.specs.declared.Layout.{Layout}
use Rattle.layout.specs.declared.Spot.{Spot}

-- one value and one place for each kind
pub record Sized (kinds values places : List ℕ) : Type 0 where
  pub values_long : length values ≡ length kinds
  pub places_long : length places ≡ length kinds

abbrev pub no_token : Token
no_token = record { at = 0; lexeme = mark rbrace }

abbrev pub lexeme_at : List Token → ℕ → Lexeme
lexeme_at ts i = get_or (lexemes ts) i (mark rbrace)

-- a condition and the bracket that closes it stand at a token
abbrev pub GuardAt : List Lexeme → ℕ → Cond → Type 0
GuardAt ls at c = (us : List Lexeme) × (drop at ls ≡ spell_cond c ++ (mark rparen ∷ us))

module _ (file kinds values places : List ℕ) where
  abbrev pub SameToken : ℕ → ℕ → Bool → Type 0
  SameToken a b r =
      (ts : List Token) → Words file ts kinds values places → r ≡ same_lexeme (lexeme_at ts a) (lexeme_at ts b)

  abbrev pub SameTokens : ℕ → ℕ → ℕ → Bool → Type 0
  SameTokens a b n r =
      (ts : List Token) → Words file ts kinds values places
      → r ≡ same_lexemes (take n (drop a (lexemes ts))) (take n (drop b (lexemes ts)))

  abbrev pub SameGuard : ℕ → ℕ → Bool → Type 0
  SameGuard a b r =
      (ts : List Token) (c d : Cond) → Words file ts kinds values places → GuardAt (lexemes ts) a c
      → GuardAt (lexemes ts) b d
      → r ≡ same_guard c d

-- A region with its flags: whether it begins a method (1), and whether another follows it there (1)
pub record Flagged : Type 0 where
  pub region : Region
  pub begins : ℕ
  pub goes_on : ℕ

abbrev pub no_flagged : Flagged
no_flagged = record { region = no_region; begins = 0; goes_on = 0 }

abbrev pub more : List Region → ℕ
more [] = 0
more (q ∷ qs) = 1

-- the regions of a method, the first with a flag, and those of all methods
unfoldable pub flag_regions : ℕ → List Region → List Flagged
flag_regions b [] = []
flag_regions b (q ∷ qs) = record { region = q; begins = b; goes_on = more qs } ∷ flag_regions 0 qs

unfoldable pub flagged : List Method → List Flagged
flagged [] = []
flagged (x ∷ ms) = flag_regions 1 (all x.regions) ++ flagged ms

abbrev pub parts : List Flagged → List Region
parts = map (λ (f : Flagged). f.region)

-- the guards of regions, by first appearance
abbrev pub found : List Flagged → List Cond
found done = guards_of [] (parts done)

-- does a region begin at a token
unfoldable pub flag_at : List ℕ → ℕ → ℕ
flag_at kinds at = bit (eqb (get_or kinds at no_kind) (kind_of (key k_waituntil)))

-- The layout's arrays are whole
pub record Arrays (l : Layout) : Type 0 where
  pub guards_whole : length l.guards_at ≡ most_regions
  pub bodies_whole : length l.bodies_at ≡ most_regions
  pub numbers_whole : length l.guard_of ≡ most_regions
  pub begins_whole : length l.begins ≡ most_regions
  pub goes_on_whole : length l.goes_on ≡ most_regions
  pub firsts_whole : length l.firsts ≡ most_regions

-- and it has at most sixteen regions, and no more guards
pub record Room (l : Layout) : Type 0 where
  pub few_regions : l.regions ≤ most_regions
  pub few_guards : l.guards ≤ l.regions
  pub arrays : Arrays l

-- a layout holds these regions
pub record Holds (ls : List Lexeme) (done : List Flagged) (l : Layout) : Type 0 where
  pub count : l.regions ≡ length done
  pub guard_count : l.guards ≡ length (found done)
  pub stand : (r : ℕ) → r < length done
      → RegionAt ls (get_or done r no_flagged).region (get_or l.guards_at r 0) (get_or l.bodies_at r 0)
  pub numbers : (r : ℕ) → r < length done
      → get_or l.guard_of r 0 ≡ place_in (get_or done r no_flagged).region.guard (found done)
  pub all_found : (r : ℕ) → r < length done
      → place_in (get_or done r no_flagged).region.guard (found done) < length (found done)
  pub first_below : (g : ℕ) → g < length (found done) → get_or l.firsts g 0 < length done
  pub first_has : (g : ℕ) → g < length (found done)
      → place_in (get_or done (get_or l.firsts g 0) no_flagged).region.guard (found done) ≡ g
  pub begin_flags : (r : ℕ) → r < length done → get_or l.begins r 0 ≡ (get_or done r no_flagged).begins
  pub follow_flags : (r : ℕ) → r < length done → get_or l.goes_on r 0 ≡ (get_or done r no_flagged).goes_on

-- the next region has a guard of its own
abbrev pub with_guard : Layout → Layout
with_guard l =
    record {
      keep = l.keep;
      regions = l.regions;
      guards = l.guards + 1;
      guards_at = l.guards_at;
      bodies_at = l.bodies_at;
      guard_of = l.guard_of;
      begins = l.begins;
      goes_on = l.goes_on;
      firsts = set l.firsts l.guards l.regions;
    }

-- one region more
abbrev pub with_region : Layout → ℕ → ℕ → ℕ → ℕ → ℕ → Layout
with_region l guard_at body_at number begins going_on =
    record {
      keep = l.keep;
      regions = l.regions + 1;
      guards = l.guards;
      guards_at = set l.guards_at l.regions guard_at;
      bodies_at = set l.bodies_at l.regions body_at;
      guard_of = set l.guard_of l.regions number;
      begins = set l.begins l.regions begins;
      goes_on = set l.goes_on l.regions going_on;
      firsts = l.firsts;
    }

-- the layout has room, keeps its kept condition, and goes on in the tokens
pub record Grown (kinds : List ℕ) (l : Layout) (at : ℕ) (s : Spot) : Type 0 where
  pub room : Room s.layout
  pub keep_kept : s.layout.keep ≡ l.keep
  pub forth : at ≤ s.at
  pub within : s.at ≤ length kinds + overrun

-- the layout holds these regions, and these lexemes stand where it goes on
pub record Reached (ls : List Lexeme) (done : List Flagged) (us : List Lexeme) (s : Spot) : Type 0 where
  pub holds : Holds ls done s.layout
  pub behind : drop s.at ls ≡ us

module _ (file kinds values places : List ℕ) where
  abbrev pub Numbers : Layout → ℕ → ℕ → Type 0
  Numbers l at n =
      (ts : List Token) (done : List Flagged) (c : Cond) → Words file ts kinds values places → Holds (lexemes ts) done l
      → GuardAt (lexemes ts) at c → n ≡ place_in c (found done)

  abbrev pub AddsRegion : Layout → ℕ → ℕ → Spot → Type 0
  AddsRegion l at begins s =
      (ts : List Token) (done : List Flagged) (q : Region) (us : List Lexeme) → Words file ts kinds values places
      → length ts ≤ most_tokens
      → Holds (lexemes ts) done l → drop at (lexemes ts) ≡ spell_region q ++ us
      → Reached (lexemes ts)
      (done ++ (record { region = q; begins = begins; goes_on = flag_at (map kind_of us) 0 } ∷ [])) us s

  abbrev pub AddsMethod : Layout → ℕ → Spot → Type 0
  AddsMethod l at s =
      (ts : List Token) (done : List Flagged) (qs : List Region) (us : List Lexeme) → Words file ts kinds values places
      → length ts ≤ most_tokens → Holds (lexemes ts) done l → length done + length qs ≤ most_regions
      → drop at (lexemes ts) ≡ each spell_region qs ++ (mark rbrace ∷ us)
      → Reached (lexemes ts) (done ++ flag_regions 1 qs) (mark rbrace ∷ us) s

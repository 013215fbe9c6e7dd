-- What the scan of a text's tokens gathers, by the slices of kinds and operands alone: the slots of its names; and which
-- sets have a slot in common.
use Rattle.std.specs.Prelude.{ℕ, ◌+◌, ◌%◌, ◌≡◌, Bool, true, false, not, ◌&&◌, ◌||◌, List, get_or, drop, eqb, ltb}
use Rattle.sets.specs.Set.{member}
use Rattle.machine.specs.Limits.{most_regions}
use Rattle.syntax.specs.Token.{mark, becomes}
use Rattle.syntax.specs.Held.Kind.{kind_of, name_kind, no_kind}
use Rattle.logic.specs.Tests.{any}
use Rattle.layout.specs.Closing.{close_from}
use Rattle.layout.specs.declared.Layout.{Layout}
use Rattle.mentions.specs.declared.Which.{Which}
use Rattle.mentions.specs.declared.Which.TheVariants.{Named, Assigned}

-- what a set of bits has room for
abbrev pub most_slots : ℕ
most_slots = 16

-- only left sides count
unfoldable pub only_left : Which → Bool
only_left Named = false
only_left Assigned = true

module _ (kinds : List ℕ) (left : Bool) where
  -- a token is a name, and where only left sides count, `:=` stands behind it
  unfoldable pub counts_at : ℕ → Bool
  counts_at i =
      eqb (get_or kinds i no_kind) name_kind && (not left || eqb (get_or kinds (i + 1) no_kind) (kind_of (mark becomes)))

  module _ (values : List ℕ) where
    -- and k is its slot
    unfoldable pub mentions_at : ℕ → ℕ → Bool
    mentions_at i k = counts_at i && eqb k (get_or values i 0)

    -- k is the slot of one of n tokens from one on
    unfoldable pub gathered : ℕ → ℕ → ℕ → Bool
    gathered from n k = ltb k most_slots && any n (λ i. mentions_at (from + i) k)

    -- a set has the slots of the text that begins at a token and ends before the one that closes
    pub record Gathers (opener closer at set : ℕ) : Type 0 where
      pub members : (k : ℕ) → member set k ≡ gathered at (close_from opener closer 0 (drop at kinds)) k

-- the token at which a guard begins: that of the first region that has it
abbrev pub guard_at : Layout → ℕ → ℕ
guard_at l g = get_or l.guards_at (get_or l.firsts g 0 % most_regions) 0

-- two sets have one of the first n slots in common
unfoldable pub meet_below : ℕ → ℕ → ℕ → Bool
meet_below n a b = any most_slots (λ k. (member a k && member b k) && ltb k n)

-- of so many guards a set has those that have a slot in common with what a body assigns
pub record Touches (guards variables : ℕ) (named : List ℕ) (assigned set : ℕ) : Type 0 where
  pub members : (g : ℕ) → member set g
      ≡ (ltb g most_regions && (ltb g guards && meet_below variables (get_or named g 0) assigned))

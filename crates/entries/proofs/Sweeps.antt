-- Laws of sets of guards and of sweeps over states, which the functions' proofs cite: one state more, a region that
-- touches none or some, one region more. By the cases of a bit.
use Prim.Native.Nat.{ℕ, ◌+◌, ◌*◌, ◌%◌, ◌^◌, ◌<◌}
use mathlib.Core.Path.{◌≡◌, refl, sym, ap, ◌∙◌}
use mathlib.Core.Bool.{Bool, true, false, not, ◌&&◌, ◌||◌, xor}
use mathlib.Core.List.{List}
use lib.ListN.{get_or}
use lib.Bits.{bit_and, bit_or, bit_xor}
use lib.Dec.{eqb}
use borrow.Author.Tests.{eqb-true}
use Rattle.sets.specs.Set.{member}
use Rattle.sets.proofs.SetLaws.{member_and, member_or, member_xor, member_none, member_one, member_full, bit_of}
use Rattle.logic.specs.Tests.{any}
use Rattle.machine.specs.Held.{code_of}
use Rattle.entries.specs.Slices.{runs_at, some_at, rises, neither, holds_then, Swept, Found, leaves_at}
use Rattle.entries.specs.Slices.{wide_at, made, swept_code, code_at}
use Rattle.entries.specs.declared.Sweep.{Sweep}
use Rattle.logic.proofs.Any.{any_next}
use Rattle.logic.proofs.Bools.{clash}

-- a guard that holds after and not before; one that is covered, as it was so far
bit_new : (a b : Bool) → xor (a || b) a ≡ (not a && b)
unfolding xor
bit_new true true = refl
bit_new true false = refl
bit_new false true = refl
bit_new false false = refl

bit_still : (a b : Bool) → (a && not b) ≡ not (not a || b)
bit_still true b = refl
bit_still false b = refl

-- the second half of a conjunction counts only where the first is true
pub and_when : (a b c : Bool) → (a ≡ true → b ≡ c) → (a && b) ≡ (a && c)
and_when true b c e = e refl
and_when false b c e = refl

-- n is the next state of the sweep
module _ (kept holds after : List ℕ) (guard r n : ℕ) where
  some_skip :
      (test : ℕ → ℕ → Bool) → runs_at kept holds guard n ≡ false
      → some_at kept holds after n guard r test ≡ some_at kept holds after (n + 1) guard r test
  unfolding some_at
  some_skip test e = sym (any_next n _ ∙ rw e)

  pub swept_skip :
      (w : Sweep) → runs_at kept holds guard n ≡ false → Swept kept holds after n guard r w
      → Swept kept holds after (n + 1) guard r w
  swept_skip w e s =
      record {
        by_raised = λ g. s.by_raised g ∙ some_skip (rises g) e;
        by_covered = λ g h. s.by_covered g h ∙ ap not (some_skip _ e);
        by_left = λ g. s.by_left g ∙ some_skip (holds_then g) e;
      }

  module _ (y : ℕ) (there : y ≡ get_or holds (get_or after (r * 4096 + n) 0 % 4096) 0) (run : runs_at kept holds guard n
      ≡ true) where
    some_more :
        (test : ℕ → ℕ → Bool)
        → (test (get_or holds n 0) y || some_at kept holds after n guard r test)
        ≡ some_at kept holds after (n + 1) guard r test
    unfolding some_at
    some_more test = sym (any_next n _ ∙ rw (run, there))

    pub swept_more :
        (w : Sweep) → Swept kept holds after n guard r w
        → Swept kept holds after (n + 1) guard r (record {
          raised = bit_or (bit_xor (bit_or (get_or holds n 0) y) (get_or holds n 0)) w.raised;
          covered = bit_and (bit_or (get_or holds n 0) y) w.covered;
          left = bit_or y w.left;
        })
    unfolding rises neither holds_then
    swept_more w s =
        record {
          by_raised = λ g. rw (member_or, member_xor, member_or, s.by_raised g, bit_new (member x g) (member y g))
              (some_more (rises g));
          by_covered = λ g h. rw (member_and, member_or, s.by_covered g h, bit_still (member x g || member y g) _)
              (ap not (some_more _));
          by_left = λ g. rw (member_or, s.by_left g) (some_more (holds_then g));
        }
      where
        x : ℕ
        x = get_or holds n 0

-- no state yet
pub swept_none :
    (kept holds after : List ℕ) (guard r : ℕ)
    → Swept kept holds after 0 guard r (record { raised = 0; covered = 65535; left = 0 })
unfolding some_at any
swept_none kept holds after guard r =
    record { by_raised = member_none; by_covered = λ g h. member_full 16 g h; by_left = member_none }

-- a region that touches no guard: nothing is found of it
pub found_still :
    (kept holds after : List ℕ) (states guard r t : ℕ) (w : Sweep) → t ≡ 0
    → Found kept holds after states guard r t (record {
      raised = bit_and t w.raised;
      covered = w.covered;
      left = w.left;
    })
found_still kept holds after states guard r t w e =
    rw e (record {
      by_raised = λ g. rw (member_and, member_none g);
      by_covered = λ g h q. clash q (member_none g);
      by_left = λ g q. clash q (member_none g);
    })

-- one that touches some: its sweep, of which the touched ones are taken
pub found_swept :
    (kept holds after : List ℕ) (states guard r t : ℕ) (w : Sweep) → Swept kept holds after states guard r w
    → Found kept holds after states guard r t (record {
      raised = bit_and t w.raised;
      covered = w.covered;
      left = w.left;
    })
found_swept kept holds after states guard r t w s =
    record {
      by_raised = λ g. rw (member_and, s.by_raised g);
      by_covered = λ g h _. s.by_covered g h;
      by_left = λ g _. s.by_left g;
    }

-- the bit of the own guard: untouched, or left true
bit_left : (t a b : Bool) → (t ≡ true → a ≡ b) → (xor t true || a) ≡ (not t || b)
unfolding xor
bit_left true a b e = e refl
bit_left false a b e = refl

left_own :
    (kept holds after : List ℕ) (states own r t : ℕ) (w : Sweep) → own < 16
    → Found kept holds after states own r t w
    → member (bit_or (bit_xor t 65535) w.left) own ≡ leaves_at kept holds after states own r t
unfolding leaves_at
left_own kept holds after states own r t w h found =
    rw (member_or, member_xor, member_full 16 own h) (bit_left (member t own) _ _ (found.by_left own))

-- one region more among those that may leave a guard true
pub wide_more :
    (kept holds after guard_of touched : List ℕ) (states n own wide : ℕ) (w : Sweep) → own ≡ get_or guard_of n 0 % 16
    → own < 16 → Found kept holds after states own n (get_or touched n 0) w
    → ((g : ℕ) → member wide g ≡ wide_at kept holds after guard_of touched states n g)
    → (g : ℕ) → member (bit_or (bit_and (1 * 2 ^ own % 65536) (bit_or (bit_xor (get_or touched n 0) 65535) w.left)) wide) g
    ≡ wide_at kept holds after guard_of touched states (n + 1) g
unfolding wide_at
wide_more kept holds after guard_of touched states n own wide w e h found all g =
    rw (member_or, member_and, bit_of own h, member_one own g, own_only, all g, e) (sym (any_next n _))
  where
    left : ℕ
    left = bit_or (bit_xor (get_or touched n 0) 65535) w.left

    own_only : (eqb g own && member left g) ≡ (eqb g own && leaves_at kept holds after states own n (get_or touched n 0))
    own_only =
        and_when (eqb g own) _ _
        (λ q. ap (member left) (eqb-true g own q) ∙ left_own kept holds after states own n _ w h found)

-- an entry that does not stand is none, whatever else is said of it
made_when : (t s a b wide : Bool) → (t ≡ true → a ≡ b) → made (t && s) a wide ≡ made (t && s) b wide
unfolding made
made_when true s a b wide e = ap (λ (x : Bool). made s x wide) (e refl)
made_when false s a b wide e = refl

-- what is found of a region makes its entries
pub found_code :
    (kept holds after guard_of touched : List ℕ) (states regions r wide g : ℕ) (w : Sweep)
    → Found kept holds after states (get_or guard_of r 0 % 16) r (get_or touched r 0) w
    → member wide g ≡ wide_at kept holds after guard_of touched states regions g
    → g < 16 → swept_code w wide g ≡ code_at kept holds after guard_of touched states regions r g
unfolding swept_code code_at
found_code kept holds after guard_of touched states regions r wide g w found e h =
    rw (found.by_raised g, e) (ap code_of (made_when (member (get_or touched r 0) g) _ _ _ _ (found.by_covered g h)))

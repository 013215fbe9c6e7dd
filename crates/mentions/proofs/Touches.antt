-- What the sets say of the texts: a text that stands at a token has the slots of its names gathered, so its set covers
-- it; and the sets of a guard's names and of a body's left sides meet where the pair is touched.
use Prim.Native.Nat.{ℕ, ◌≤◌, ◌<◌}
use native.Mathlib.Omega.{arith}
use mathlib.Core.Path.{◌≡◌, refl, sym, ap, subst, ◌∙◌}
use mathlib.Core.Bool.{Bool, true, false, ◌&&◌, false≢true}
use mathlib.Core.Logic.{◌↔◌}
use mathlib.Core.List.Memᴰ
use mathlib.Core.List.{List, [], ◌∷◌, ◌++◌, Memᴰ}
use lib.ListN.{length, drop, get_or}
use lib.Dec.{ltb}
use borrow.Author.Tests.{ltb-true, lt-ltb}
use Rattle.logic.proofs.Bools.{both, and, tests_equal}
use Rattle.logic.proofs.Any.{any_iff}
use Rattle.sets.specs.Set.{member}
use Rattle.syntax.specs.Token.{Lexeme, name, mark, becomes}
use Rattle.syntax.specs.Held.Kind.{kind_of, Kinds}
use Rattle.syntax.specs.Tree.{Monitor, Var, Block, spell_cond, spell_block}
use Rattle.meaning.specs.Model.{vars, guards, region, no_guard}
use Rattle.meaning.specs.Touch.{Names, LeftSide}
use Rattle.meaning.specs.Decide.Touch.{touched}
use Rattle.meaning.proofs.Touching.{touched_iff}
use Rattle.evaluator.specs.Coding.{Codes, slot_of, Covers}
use Rattle.layout.specs.Closing.{close_from}
use Rattle.layout.proofs.Closes.{Balanced, close_length}
use Rattle.mentions.specs.Gathered.{gathered, Gathers, meet_below}
use Rattle.mentions.proofs.Slots.{slot_most, slot_variable, slot_declared, slot_same}
use Rattle.mentions.proofs.Texts.{Occurs, gathered_iff}

-- Names and left sides, as they occur

mem_occurs : {x : List ℕ} {w : List Lexeme} → Memᴰ (name x) w → Occurs false x w
mem_occurs {x} (Memᴰ.head {x = l} {xs = w} e) =
    record {
      before = [];
      behind = w;
      stands = ap (λ (k : Lexeme). k ∷ w) (sym e);
      next = λ on. absurd (false≢true on);
    }
mem_occurs (Memᴰ.tail {x = l} m) =
    let o = mem_occurs m in
    record {
      before = l ∷ o.before;
      behind = o.behind;
      stands = ap (λ (w : List Lexeme). l ∷ w) o.stands;
      next = o.next;
    }

occurs_mem : {left : Bool} {x : List ℕ} {w : List Lexeme} → Occurs left x w → Memᴰ (name x) w
occurs_mem {x = x} o =
    subst (Memᴰ (name x)) (sym o.stands) (Memᴰ.append_right o.before (Memᴰ.head refl))

assigns_occurs : {b : Block} {x : List ℕ} → LeftSide b x → Occurs true x (spell_block b)
assigns_occurs a =
    record {
      before = a.before;
      behind = mark becomes ∷ a.behind;
      stands = a.stands;
      next = λ _. (a.behind, refl);
    }

occurs_assigns : {b : Block} {x : List ℕ} → Occurs true x (spell_block b) → LeftSide b x
occurs_assigns {x = x} o =
    let (rest, e) = o.next refl in
    record {
      before = o.before;
      behind = rest;
      stands = o.stands ∙ ap (λ (w : List Lexeme). o.before ++ (name x ∷ w)) e;
    }

-- a set has the slots of a text's names, or of its left sides, and no others
abbrev pub HasSlots : Bool → List Var → List Lexeme → ℕ → Type 0
HasSlots left vs w set =
    (k : ℕ) → (member set k ≡ true) ↔ ((k < 16) × ((x : List ℕ) × Occurs left x w × (slot_of vs x ≡ k)))

module _ {vs : List Var} {ls : List Lexeme} {kinds values : List ℕ} (codes : Codes vs ls kinds values) (left : Bool)
  where
    pub has_slots : (o c at set : ℕ) (w us : List Lexeme) (z : Lexeme) → Balanced o c w → (kind_of z ≡ o → ⊥)
        → kind_of z ≡ c → (kind_of z ≡ kind_of (mark becomes) → ⊥) → drop at ls ≡ w ++ (z ∷ us)
        → Gathers kinds left values o c at set → HasSlots left vs w set
    unfolding Kinds
    has_slots o c at set w us z balanced opens closes other stands g k =
        let long : close_from o c 0 (drop at kinds) ≡ length w =
        ap (λ (ks : List ℕ). close_from o c 0 (drop at ks)) (sym codes.by_kind)
        ∙ close_length o c at ls w us z balanced opens closes stands in
        let is : member set k ≡ gathered kinds left values at (length w) k =
        g.members k ∙ ap (λ (n : ℕ). gathered kinds left values at n k) long in
        rw is (gathered_iff codes left at w us z other stands k)

module _ (vs : List Var) (few : length vs ≤ 6) where
  slot_few : (x : List ℕ) → slot_of vs x < 16
  slot_few x = omega (arith, slot_most vs x)

  pub covers : (w : List Lexeme) (set : ℕ) → HasSlots false vs w set → Covers vs w set
  unfolding Covers
  covers w set has x m = (has (slot_of vs x)).1 (slot_few x, (x, mem_occurs m, refl))

meet_iff : (n a b : ℕ) → (meet_below n a b ≡ true)
    ↔ ((k : ℕ) × (k < 16) × ((member a k ≡ true) × (member b k ≡ true) × (k < n)))
unfolding meet_below
meet_iff n a b = any_iff 16 (λ k. (member a k && member b k) && ltb k n) (λ k. (
  λ h.
      let p = both (member a k && member b k) (ltb k n) h in
      let q = both (member a k) (member b k) p.0 in
      (q.0, q.1, ltb-true k n p.1),
  λ t. and (and t.0 t.1) (lt-ltb k n t.2),
))

module _ (m : Monitor) (few : length (vars m) ≤ 6) (n : ℕ) (counted : n ≡ length (vars m)) where
  pub touches : (q g named assigned : ℕ)
      → HasSlots false (vars m) (spell_cond (get_or (guards m) g no_guard)) named
      → HasSlots true (vars m) (spell_block (region m q).body) assigned
      → meet_below n named assigned ≡ touched m q g
  unfolding Names
  touches q g named assigned names assigns =
      tests_equal _ _
      (λ h.
      let (k, low, (in_named, in_assigned, below)) = (meet_iff n named assigned).0 h in
      let (x, o, at) = ((names k).0 in_named).1 in
      let (y, p, there) = ((assigns k).0 in_assigned).1 in
      let one : x ≡ y = slot_same (vars m) x y (omega arith) (at ∙ sym there) in
      let (v, declared, is) = slot_variable (vars m) x (omega arith) in
      (touched_iff m q g).1 (record {
        variable = v;
        declared = declared;
        named = rw is (occurs_mem o);
        assigned = rw (is, one) (occurs_assigns p);
      }))
      (λ h.
      let t = (touched_iff m q g).0 h in
      let x = t.variable.title in
      let k = slot_of (vars m) x in
      let low = slot_declared (vars m) t.variable t.declared in
      (meet_iff n named assigned).1 (
        k,
        omega arith,
        (
          (names k).1 (omega arith, (x, mem_occurs t.named, refl)),
          (assigns k).1 (omega arith, (x, assigns_occurs t.assigned, refl)),
          omega arith,
        ),
      ))

-- The table's lines are the entries that stand, each once, by region and then by guard; the bytes tell the entries; and
-- there are at most 240, by counting them region by region.
use Prim.Native.Nat.{ℕ, zero, suc, ◌+◌, ◌*◌, ◌≤◌, ◌<◌}
use native.Mathlib.Omega.{arith}
use native.Mathlib.Nat.{suc-mul}
use mathlib.Core.Path.{◌≡◌, refl, sym, ap, ap₂, ◌∙◌}
use mathlib.Core.Bool.{true}
use mathlib.Core.Logic.{inl, inr, ⊎_elim, ◌↔◌}
use mathlib.Core.List.Memᴰ
use mathlib.Core.List.{List, [], ◌∷◌, ◌++◌, append-nil, append_assoc, Memᴰ}
use lib.ListN.{length, drop, length-append}
use lib.Dec.{eqb}
use borrow.Author.Tests.{eqb-true, eqb-false}
use Rattle.machine.specs.Monitor.{Monitor}
use Rattle.machine.specs.Algorithm1.{Entry, entry}
use Rattle.machine.specs.Decide.Table.{entry_of}
use Rattle.machine.specs.Algorithm1 as table
use Rattle.machine.specs.Limits.{most_lines}
use Rattle.machine.proofs.Entries.{own_none}
use Rattle.meaning.specs.Hex.{hex2}
use Rattle.meaning.specs.Decide.Table.{entry_line, for_each, table_of}
use Rattle.meaning.specs.Decide.Frames.{pair_at}
use Rattle.meaning.proofs.Digits.{two_digits, bit_digits, bit_back}
use Rattle.logic.specs.Tests.{bit}
use Rattle.logic.proofs.Bools.{split, different}
use Rattle.meaning.specs.Table.{Before, Increasing, Row, Small, no_row, one_row, row_line, row_lines}

-- the rows that stand, for each region and each guard in that order
unfoldable pub rows_at : ℕ → ℕ → Entry → List Row
rows_at r g table.none = []
rows_at r g (entry a b) = record { region = r; guard = g; unconditional = a; broadcast = b } ∷ []

unfoldable pub each : ℕ → ℕ → (ℕ → List Row) → List Row
each zero k f = []
each (suc n) k f = f k ++ each n (k + 1) f

unfoldable pub rows_of : Monitor → List Row
rows_of m = each m.regions 0 (λ r. each m.guards 0 (λ g. rows_at r g (entry_of m r g)))

-- The lines

row_lines_append : (a b : List Row) → row_lines (a ++ b) ≡ row_lines a ++ row_lines b
unfolding row_lines
row_lines_append [] b = refl
row_lines_append (w ∷ a) b = rw (row_lines_append a b, append_assoc)

each_lines : (n k : ℕ) (f : ℕ → List ℕ) (h : ℕ → List Row) → ((j : ℕ) → f j ≡ row_lines (h j))
    → for_each n k f ≡ row_lines (each n k h)
unfolding for_each each row_lines
each_lines zero k f h e = refl
each_lines (suc n) k f h e = rw (row_lines_append (h k) (each n (k + 1) h), e k, each_lines n (k + 1) f h e)

rows_at_lines : (r g : ℕ) (e : Entry) → entry_line r g e ≡ row_lines (rows_at r g e)
unfolding entry_line rows_at row_lines row_line
rows_at_lines r g table.none = refl
rows_at_lines r g (entry a b) = rw append-nil

pub table_lines : (m : Monitor) → table_of m ≡ row_lines (rows_of m)
unfolding table_of rows_of
table_lines m =
    each_lines m.regions 0 _ _ (λ r. each_lines m.guards 0 _ _ (λ g. rows_at_lines r g (entry_of m r g)))

-- The rows

each_in : (n k : ℕ) (f : ℕ → List Row) (w : Row) → Memᴰ w (each n k f) → (j : ℕ) × (k ≤ j) × (j < k + n)
    × Memᴰ w (f j)
unfolding each
each_in (suc n) k f w m = ⊎_elim
    (λ h. (k, omega arith, omega arith, h))
    (λ h. let r = each_in n (k + 1) f w h in (r.0, omega arith, omega arith, r.3))
    (Memᴰ.append_cases (f k) m)
each_in zero k f w m = absurd (Memᴰ.not-nil m)

in_each : (n k : ℕ) (f : ℕ → List Row) (w : Row) (j : ℕ) → k ≤ j → j < k + n → Memᴰ w (f j)
    → Memᴰ w (each n k f)
unfolding each
in_each zero k f w j l h m = absurd (omega arith)
in_each (suc n) k f w j l h m = split (eqb k j)
    (λ e. Memᴰ.append_left (each n (k + 1) f) (rw (← (eqb-true k j e)) at m))
    (λ e. let d : (k ≡ j → ⊥) = eqb-false k j e in
    Memᴰ.append_right (f k) (in_each n (k + 1) f w j (omega arith) (omega arith) m))

row_path : (w v : Row) → w.region ≡ v.region → w.guard ≡ v.guard → w.unconditional ≡ v.unconditional
    → w.broadcast ≡ v.broadcast → w ≡ v
row_path w v r g u b = λ i. record { region = r i; guard = g i; unconditional = u i; broadcast = b i }

rows_at_row : (r g : ℕ) (e : Entry) (w : Row)
    → Memᴰ w (rows_at r g e) ↔ ((w.region ≡ r) × (w.guard ≡ g) × (e ≡ entry w.unconditional w.broadcast))
unfolding rows_at
rows_at_row r g table.none w = ((λ m. absurd (Memᴰ.not-nil m)), λ p. let e = p.2 in different (cc))
rows_at_row r g (entry a b) w = (
  (λ m. let e = Memᴰ.eq_of_singleton m in rw e (refl, refl, refl)),
  λ p.
      let e = p.2 in
      let u : w.unconditional ≡ a = cc in
      let v : w.broadcast ≡ b = cc in
      Memᴰ.head (row_path w (record { region = r; guard = g; unconditional = a; broadcast = b }) p.0
      p.1 u v),
)

-- exactly the entries that stand
pub row_stands : (m : Monitor) (w : Row)
    → Memᴰ w (rows_of m)
    ↔ ((w.region < m.regions) × (w.guard < m.guards)
    × (entry_of m w.region w.guard ≡ entry w.unconditional w.broadcast))
unfolding rows_of
row_stands m w = (
  forth,
  λ p. in_each m.regions 0 _ w w.region (omega arith) (omega arith)
      (in_each m.guards 0 _ w w.guard (omega arith) (omega arith)
      ((rows_at_row w.region w.guard _ w).1 (refl, refl, p.2))),
)
  where
    forth : Memᴰ w (rows_of m)
        → (w.region < m.regions) × (w.guard < m.guards)
        × (entry_of m w.region w.guard ≡ entry w.unconditional w.broadcast)
    forth h =
        let a = each_in m.regions 0 _ w h in
        let b = each_in m.guards 0 _ w a.3 in
        let c = (rows_at_row a.0 b.0 (entry_of m a.0 b.0) w).0 b.3 in
        (omega arith, omega arith, ap₂ (entry_of m) c.0 c.1 ∙ c.2)

-- Their order

increasing_append : {a b : List Row} → Increasing a → Increasing b
    → ((w v : Row) → Memᴰ w a → Memᴰ v b → Before w v) → Increasing (a ++ b)
increasing_append no_row i h = i
increasing_append (one_row {w = w} {ws = ws} f j) i h =
    one_row (λ v m. ⊎_elim (f v) (h w v (Memᴰ.head refl)) (Memᴰ.append_cases ws m))
    (increasing_append j i (λ x v m. h x v (Memᴰ.tail m)))

each_increasing : (n k : ℕ) (f : ℕ → List Row) → ((j : ℕ) → Increasing (f j))
    → ((i j : ℕ) (w v : Row) → i < j → Memᴰ w (f i) → Memᴰ v (f j) → Before w v) → Increasing (each n k f)
unfolding each
each_increasing zero k f g h = no_row
each_increasing (suc n) k f g h = increasing_append (g k) (each_increasing n (k + 1) f g h)
    (λ w v m l. let r = each_in n (k + 1) f v l in h k r.0 w v (omega arith) m r.3)

one_increasing : (r g : ℕ) (e : Entry) → Increasing (rows_at r g e)
unfolding rows_at
one_increasing r g table.none = no_row
one_increasing r g (entry a b) = one_row (λ v m. absurd (Memᴰ.not-nil m)) no_row

-- by region, then by guard, and each once
pub rows_increasing : (m : Monitor) → Increasing (rows_of m)
unfolding rows_of Before
rows_increasing m =
    each_increasing m.regions 0 _ (λ r. each_increasing m.guards 0 _ (λ g. one_increasing r g (entry_of m r g))
    (by_guard r)) by_region
  where
    by_guard : (r i j : ℕ) (w v : Row) → i < j → Memᴰ w (rows_at r i (entry_of m r i))
        → Memᴰ v (rows_at r j (entry_of m r j))
        → Before w v
    by_guard r i j w v l a b =
        let p = (rows_at_row r i _ w).0 a in
        let q = (rows_at_row r j _ v).0 b in
        inr (p.0 ∙ sym q.0, omega arith)

    by_region : (i j : ℕ) (w v : Row) → i < j → Memᴰ w (each m.guards 0 (λ g. rows_at i g (entry_of m i g)))
        → Memᴰ v (each m.guards 0 (λ g. rows_at j g (entry_of m j g))) → Before w v
    by_region i j w v l a b =
        let c = each_in m.guards 0 _ w a in
        let d = each_in m.guards 0 _ v b in
        let p = (rows_at_row i c.0 _ w).0 c.3 in
        let q = (rows_at_row j d.0 _ v).0 d.3 in
        inl (omega arith)

record Decoded (w : Row) (bs rest : List ℕ) : Type 0 where
  region : pair_at bs 0 ≡ w.region
  guard : pair_at bs 2 ≡ w.guard
  unconditional : eqb (pair_at bs 4) 1 ≡ w.unconditional
  broadcast : eqb (pair_at bs 6) 1 ≡ w.broadcast
  behind : drop 9 bs ≡ rest

decoded : (w : Row) (rest : List ℕ) → Small w → Decoded w (row_line w ++ rest) rest
unfolding row_line Small pair_at hex2
decoded w rest (r, g) =
    let a = bit_back w.unconditional in
    let b = bit_back w.broadcast in
    rw (bit_digits w.unconditional, bit_digits w.broadcast) (record {
      region = (two_digits w.region r).value;
      guard = (two_digits w.guard g).value;
      unconditional = rw (two_digits (bit w.unconditional) (omega arith)).value a.1;
      broadcast = rw (two_digits (bit w.broadcast) (omega arith)).value b.1;
      behind = refl;
    })

line_decoded : (w v : Row) (a b : List ℕ) → Small w → Small v → row_line w ++ a ≡ row_line v ++ b → (w ≡ v) × (a ≡ b)
line_decoded w v a b h g e =
    let t = decoded w a h in
    let u = decoded v b g in
    (row_path w v (cc) (cc) (cc) (cc), cc)

pub rows_decoded : (ws vs : List Row) → ((w : Row) → Memᴰ w ws → Small w) → ((v : Row) → Memᴰ v vs → Small v)
    → row_lines ws ≡ row_lines vs → ws ≡ vs
unfolding row_lines row_line hex2
rows_decoded [] [] h g e = refl
rows_decoded [] (v ∷ vs) h g e = different (cc)
rows_decoded (w ∷ ws) [] h g e = different (cc)
rows_decoded (w ∷ ws) (v ∷ vs) h g e =
    let t = line_decoded w v (row_lines ws) (row_lines vs) (h w (Memᴰ.head refl)) (g v (Memᴰ.head refl)) e in
    let p = t.0 in
    let q = rows_decoded ws vs (λ x m. h x (Memᴰ.tail m)) (λ x m. g x (Memᴰ.tail m)) t.1 in
    cc

-- How many

rows_at_few : (r g : ℕ) (e : Entry) → length (rows_at r g e) ≤ 1
unfolding rows_at
rows_at_few r g table.none = omega arith
rows_at_few r g (entry a b) = omega arith

each_few : (n k b : ℕ) (f : ℕ → List Row) → ((j : ℕ) → j < k + n → length (f j) ≤ b) → length (each n k f) ≤ n * b
unfolding each
each_few zero k b f h = omega arith
each_few (suc n) k b f h =
    let rest = each_few n (k + 1) b f (λ j l. h j (omega arith)) in
    let sum = length-append (f k) (each n (k + 1) f) in
    omega (arith, h k (omega arith), suc-mul n b)

-- where one of the parts is empty
each_fewer : (n k g : ℕ) (f : ℕ → List Row) → ((j : ℕ) → length (f j) ≤ 1) → k ≤ g → g < k + n → f g ≡ []
    → length (each n k f) + 1 ≤ n
unfolding each
each_fewer zero k g f h low high e = absurd (omega arith)
each_fewer (suc n) k g f h low high e =
    let sum = length-append (f k) (each n (k + 1) f) in
    split (eqb k g)
    (λ q.
    let none = ap length (ap f (eqb-true k g q) ∙ e) in
    let rest = each_few n (k + 1) 1 f (λ j l. h j) in
    omega arith)
    (λ q. let ne : (k ≡ g → ⊥) = eqb-false k g q in
    omega (arith, h k, each_fewer n (k + 1) g f h (omega arith) (omega arith) e))

-- for sixteen regions at most fifteen each, as there is none for a region's own guard
pub rows_few : (m : Monitor) → ((s : ℕ) → m.kept s ≡ true → s < m.states)
    → ((r : ℕ) → r < m.regions → m.guard_of r < m.guards) → m.regions ≤ 16 → m.guards ≤ 16
    → length (rows_of m) ≤ most_lines
unfolding rows_of rows_at
rows_few m below own few_regions few_guards =
    let all = each_few m.regions 0 15 (λ r. each m.guards 0 (λ g. rows_at r g (entry_of m r g))) region in
    omega arith
  where
    region : (r : ℕ) → r < 0 + m.regions → length (each m.guards 0 (λ g. rows_at r g (entry_of m r g))) ≤ 15
    region r h =
        omega (
          arith,
          each_fewer m.guards 0 (m.guard_of r) (λ g. rows_at r g (entry_of m r g))
              (λ g. rows_at_few r g (entry_of m r g)) (omega arith) (omega (arith, own r (omega arith)))
              (ap (rows_at r (m.guard_of r)) (own_none m below r)),
        )

pub row_lines_length : (ws : List Row) → length (row_lines ws) ≡ 9 * length ws
unfolding row_lines row_line hex2
row_lines_length [] = refl
row_lines_length (w ∷ ws) = simp bit_digits (omega (arith, row_lines_length ws))

-- What holds at a point of a run: of the plain machine alone, and between it and the table's. For each kind of frame
-- one lemma says why it is kept: a body that ran, a thread that begins to wait, a recheck; and who may resume.
use Prim.Native.Nat.{ℕ}
use mathlib.Core.Path.{◌≡◌, refl, sym, ap, subst, ◌∙◌}
use mathlib.Core.Bool.{Bool, true, false, not, ◌&&◌, ◌||◌, and-false, false≢true}
use mathlib.Core.Logic.{◌⊎◌, inl, inr, ⊎_elim}
use mathlib.Core.List.{List, [], ◌∷◌}
use lib.Dec.{eqb, ltb}
use borrow.Author.Tests.{ltb-true, ltb-false, eqb-true}
use Rattle.machine.specs.Monitor.{Threads, idle_threads, waiting, Monitor, Config, line}
use Rattle.machine.specs.Decide.Step.{without, is_waiting, begin_wait, leave, at_front, first_in, next, first_notified}
use Rattle.machine.specs.Decide.Step.{plain_told}
use Rattle.machine.specs.Algorithm1.{Entry, entry}
use Rattle.machine.specs.Decide.Table.{table_told, unconditional, broadcast, entry_of}
use Rattle.machine.specs.Rules.{Waits, Front, PlainNoticesBy, TableNoticesBy}
use Rattle.logic.proofs.Bools.{split, clash, split_eq, is_false, either, or_left, or_right, different}
use Rattle.machine.proofs.Places.{without_iff}
use Rattle.machine.proofs.Order.{began_own, began_other, left_own, left_other, waits_iff, front_waits}
use Rattle.machine.proofs.Order.{began_line, left_line_other}
use Rattle.machine.proofs.Tests.{plain_notices, table_notices}
use Rattle.machine.specs.Algorithm1.{Holds, Fails, Triple, Signals}
use Rattle.machine.proofs.Entries.{entry_where, entry_parts, entry_unconditional, signal_iff, own_none}
use Rattle.machine.specs.Agreement.{Checked}

-- What placing guarantees of a table whose entries on guard g are broadcasts where `bc g`, and none is on a region's own
pub record Placed (m : Monitor) (e : ℕ → ℕ → Entry) (bc : ℕ → Bool) : Type 0 where
  pub stands :
      (r g s : ℕ) → m.kept s ≡ true → m.holds (m.guard_of r) s ≡ true → m.holds g s ≡ false
      → m.holds g (m.after r s) ≡ true → (a : Bool) × (e r g ≡ entry a (bc g))
  pub sure :
      (r g : ℕ) (b : Bool) (s : ℕ) → e r g ≡ entry true b → m.kept s ≡ true → m.holds (m.guard_of r) s ≡ true
      → m.holds g s ≡ false → m.holds g (m.after r s) ≡ true
  pub once :
      (w s : ℕ) → bc (m.guard_of w) ≡ false → m.kept s ≡ true → m.holds (m.guard_of w) s ≡ true
      → m.holds (m.guard_of w) (m.after w s) ≡ false
  pub kind : (r g : ℕ) (a b : Bool) → e r g ≡ entry a b → b ≡ bc g
  pub other : (r : ℕ) (a b : Bool) → e r (m.guard_of r) ≡ entry a b → ⊥

-- the table of Algorithm 1 is so placed
pub entries_placed : (m : Monitor) → Checked m → Placed m (entry_of m) (broadcast m)
unfolding Holds Fails Triple Signals
entries_placed m ok = record {
  stands = λ r g s k h f a. (
    unconditional m r g,
    entry_where m ok.below r g (record {
      from = s;
      may_run = record { is_kept = k; guard = h };
      before = f;
      after =
          a;
    }),
  );
  sure = λ r g b s e k h f. (entry_unconditional m ok.below r g true b e).0 refl s (record { is_kept = k; guard = h })
      f;
  once = λ w s b k h. split (ltb w m.regions)
      (λ q. (signal_iff m ok.below (m.guard_of w)).0 b w (ltb-true w m.regions q) refl s
      (record { is_kept = k; guard = h }) h)
      (λ q. clash h (ok.outside w s (ltb-false w m.regions q)));
  kind = λ r g a b e. (entry_parts m ok.below r g a b e).1;
  other = λ r a b e. different (let n = own_none m ok.below r in cc);
}

-- Points

-- what holds at each point of the plain machine: notices are for waiters, and a waiter whose guard holds has one
pub record PlainPoint (m : Monitor) (s : ℕ) (p : Threads) (n : ℕ → Bool) : Type 0 where
  pub is_kept : m.kept s ≡ true
  pub waits : (u : ℕ) → n u ≡ true → is_waiting (p.place u) ≡ true
  pub all : (g u : ℕ) → Waits m p g u → m.holds g s ≡ true → n u ≡ true

-- of the table's: on a guard that holds the one next in line has a notice, and all where its entries are broadcasts
pub record TablePoint (m : Monitor) (bc : ℕ → Bool) (s : ℕ) (p : Threads) (n : ℕ → Bool) : Type 0 where
  pub is_kept : m.kept s ≡ true
  pub first : (g u : ℕ) → m.holds g s ≡ true → Front (line m p g) u → n u ≡ true
  pub every : (g u : ℕ) → Waits m p g u → m.holds g s ≡ true → bc g ≡ true → n u ≡ true

-- either machine's, the table's where the choice is true
unfoldable pub ToldAt : Monitor → Bool → Config → Type 0
ToldAt m true c = TablePoint m (broadcast m) c.state c.threads c.notified
ToldAt m false c = PlainPoint m c.state c.threads c.notified

-- and between the two machines' notices at a common state and common places
pub record Agree (m : Monitor) (bc : ℕ → Bool) (s : ℕ) (p : Threads) (nP n_t : ℕ → Bool) : Type 0 where
  pub plain : PlainPoint m s p nP
  pub within : (u : ℕ) → n_t u ≡ true → nP u ≡ true
  pub table : TablePoint m bc s p n_t

pub idle_plain : (m : Monitor) (s : ℕ) → m.kept s ≡ true → PlainPoint m s idle_threads (λ _. false)
unfolding Waits is_waiting
idle_plain m s k = record {
  is_kept = k;
  waits = λ u h. h;
  all = λ g u w h. ap is_waiting w.1;
}

-- all idle and none notified
pub idle_agree :
    (m : Monitor) (bc : ℕ → Bool) (s : ℕ) → m.kept s ≡ true → Agree m bc s idle_threads (λ _. false) (λ _. false)
unfolding Waits is_waiting
idle_agree m bc s k = record {
  plain = idle_plain m s k;
  within = λ u h. h;
  table = record {
    is_kept = k;
    first = λ g u h f. let w = front_waits m idle_threads g u f in ap is_waiting w.1;
    every = λ g u w h b. ap is_waiting w.1;
  };
}

-- Waiting, before and after

waits_at : (m : Monitor) (p q : Threads) (g u : ℕ) → q.place u ≡ p.place u → Waits m p g u → Waits m q g u
unfolding Waits
waits_at m p q g u e w = (w.0, e ∙ w.1, w.2)

waits_waiting : (m : Monitor) (p : Threads) (g u : ℕ) → Waits m p g u → is_waiting (p.place u) ≡ true
unfolding Waits is_waiting
waits_waiting m p g u w = ap is_waiting w.1

-- where whoever stands at the front of a line is notified, a thread may resume exactly if it stands there
resumes_in : (l : List ℕ) (n : ℕ → Bool) (t : ℕ) → ((u : ℕ) → Front l u → n u ≡ true) → n t && first_in l n t ≡ at_front l t
unfolding first_in at_front Front
resumes_in [] n t told = and-false (n t)
resumes_in (v ∷ vs) n t told = go (eqb v t) refl (n v) (told v (vs, refl))
  where
    go : (b : Bool) → eqb v t ≡ b → (k : Bool) → k ≡ true → n t && (b || (not k && first_in vs n t)) ≡ b
    go true q k e = ap (λ (x : Bool). x && true) (told t (vs, ap (λ (x : ℕ). x ∷ vs) (eqb-true v t q)))
    go false q true e = and-false (n t)
    go false q false e = absurd (false≢true e)

pub resumes :
    (m : Monitor) (p : Threads) (n : ℕ → Bool) (g t : ℕ) → ((u : ℕ) → Front (line m p g) u → n u ≡ true)
    → n t && first_notified m p n g t ≡ next m p g t
unfolding first_notified next
resumes m p n g t told = resumes_in (line m p g) n t told

-- A body of region r ran, by thread t: it is no waiter any more, and the others keep their places

module _ (m : Monitor) (ok : Checked m) (s : ℕ) (p : Threads) (t r : ℕ) (guard : m.holds (m.guard_of r) s ≡ true) where
  abbrev s' : ℕ
  s' = m.after r s

  abbrev p' : Threads
  p' = leave p t (m.follows r)

  pub left_waits : (g u : ℕ) → Waits m p' g u → (u ≡ t → ⊥) × Waits m p g u
  left_waits g u w =
      split_eq u t (λ q. clash (waits_waiting m p' g u w) (ap (λ (v : ℕ). is_waiting (p'.place v)) q ∙ no_waiter))
      (λ q. (q, waits_at m p' p g u (sym (left_other p t (m.follows r) u q)) w))
    where
      no_waiter : is_waiting (p'.place t) ≡ false
      no_waiter = ap is_waiting (left_own p t (m.follows r)) ∙ ok.leaves r

  -- the notices of the others stay
  pub stays : (n : ℕ → Bool) (u : ℕ) (b : Bool) → (u ≡ t → ⊥) → n u ≡ true → without n t u || b ≡ true
  stays n u b d h = or_left (without n t u) b ((without_iff n t u).1 (d, h))

  pub ran_all : (n : ℕ → Bool) (g u : ℕ) → Waits m p' g u → m.holds g s' ≡ true → without n t u || plain_told m s' p' r u
      ≡ true
  unfolding PlainNoticesBy
  ran_all n g u w h = or_right (without n t u) (plain_told m s' p' r u) ((plain_notices m s' p' r u).1 (g, w, h))

  pub ran_plain : (n : ℕ → Bool) → PlainPoint m s p n → PlainPoint m s' p' (λ u. without n t u || plain_told m s' p' r u)
  unfolding PlainNoticesBy
  ran_plain n pt = record {
    is_kept = ok.keeps r s pt.is_kept guard;
    waits = λ u h. ⊎_elim
        (λ a. let b = (without_iff n t u).0 a in ap is_waiting (left_other p t (m.follows r) u b.0)
        ∙ pt.waits u b.1)
        (λ a. let b = (plain_notices m s' p' r u).0 a in waits_waiting m p' b.0 u b.1)
        (either (without n t u) (plain_told m s' p' r u) h);
    all = ran_all n;
  }

  module _ (e : ℕ → ℕ → Entry) (bc : ℕ → Bool) (placed : Placed m e bc) (own : (w : ℕ) → p.place t ≡ waiting w → w ≡ r)
      (n : ℕ → Bool) (tp : TablePoint m bc s p n) where
    abbrev n' : ℕ → Bool
    n' u = without n t u || table_told m e s' p' r u

    -- a guard that has become true: its entry stands, and acts
    pub woken : (g u : ℕ) → Waits m p' g u → m.holds g s' ≡ true → m.holds g s ≡ false
        → (bc g ≡ true) ⊎ Front (line m p' g) u → n' u ≡ true
    unfolding TableNoticesBy
    woken g u w h k a =
        let x = placed.stands r g s tp.is_kept guard k h in
        or_right (without n t u) (table_told m e s' p' r u)
        ((table_notices m e s' p' r u).1 (g, w, x.0, bc g, x.1, inr h, a))

    ran_every : (g u : ℕ) → Waits m p' g u → m.holds g s' ≡ true → bc g ≡ true → n' u ≡ true
    ran_every g u w h b =
        let o = left_waits g u w in
        split (m.holds g s)
        (λ k. stays n u (table_told m e s' p' r u) o.0 (tp.every g u o.1 k b))
        (λ k. woken g u w h k (inl b))

    -- the line on a guard other than the region's is as it was
    line_before : (g : ℕ) → (m.guard_of r ≡ g → ⊥) → line m p' g ≡ line m p g
    unfolding Waits
    line_before g other = left_line_other m p t (m.follows r) g (is_false (λ h.
        let w = (waits_iff m p g t).0 h in other (ap m.guard_of (sym (own w.0 w.1)) ∙ w.2)))

    -- so who stands at its front had a notice where it held
    pub had_notice : (g u : ℕ) → (m.guard_of r ≡ g → ⊥) → m.holds g s ≡ true → Front (line m p' g) u → n u ≡ true
    had_notice g u other k f = tp.first g u k (subst (λ (l : List ℕ). Front l u) (line_before g other) f)

    -- a guard with signals that held before and after the body is not the region's
    not_own : (g : ℕ) → m.holds g s' ≡ true → bc g ≡ false → m.guard_of r ≡ g → ⊥
    not_own g h b q =
        clash h (ap (λ (y : ℕ). m.holds y s') (sym q) ∙ placed.once r s (ap bc q ∙ b) tp.is_kept guard)

    ran_first : (g u : ℕ) → m.holds g s' ≡ true → Front (line m p' g) u → n' u ≡ true
    ran_first g u h f =
        split (m.holds g s) (λ k. split (bc g) (ran_every g u w h) (was_told k)) (λ k. woken g u w h k (inr f))
      where
        w : Waits m p' g u
        w = front_waits m p' g u f

        was_told : m.holds g s ≡ true → bc g ≡ false → n' u ≡ true
        was_told k b =
            stays n u (table_told m e s' p' r u) (left_waits g u w).0 (had_notice g u (not_own g h b) k f)

    pub ran_table : TablePoint m bc s' p' n'
    ran_table = record { is_kept = ok.keeps r s tp.is_kept guard; first = ran_first; every = ran_every }

  module _ (e : ℕ → ℕ → Entry) (bc : ℕ → Bool) (placed : Placed m e bc) (nP n_t : ℕ → Bool) (ag : Agree m bc s p nP n_t)
      (own : (w : ℕ) → p.place t ≡ waiting w → w ≡ r) where
    abbrev n_p' : ℕ → Bool
    n_p' u = without nP t u || plain_told m s' p' r u

    abbrev n_t' : ℕ → Bool
    n_t' u = without n_t t u || table_told m e s' p' r u

    -- an entry that acts though its guard is false is unconditional: then the guard held before the body
    held_before :
        (g : ℕ) (a b : Bool) → e r g ≡ entry a b → (a ≡ true) ⊎ (m.holds g s' ≡ true) → m.holds g s' ≡ false
        → m.holds g s ≡ true
    held_before g a b z (inl y) q =
        let z' : e r g ≡ entry true b = z ∙ ap (λ (x : Bool). entry x b) y in
        split (m.holds g s) (λ k. k) (λ k. clash (placed.sure r g b s z' ag.plain.is_kept guard k) q)
    held_before g a b z (inr y) q = clash y q

    -- and where the guard held the plain machine had notified all
    told_within :
        (g u : ℕ) (a b : Bool) → Waits m p' g u → e r g ≡ entry a b → (a ≡ true) ⊎ (m.holds g s' ≡ true) → n_p' u ≡ true
    told_within g u a b w z x =
        let o = left_waits g u w in
        split (m.holds g s') (ran_all nP g u w)
        (λ q. stays nP u (plain_told m s' p' r u) o.0 (ag.plain.all g u o.1 (held_before g a b z x q)))

    ran_within : (u : ℕ) → n_t' u ≡ true → n_p' u ≡ true
    unfolding TableNoticesBy
    ran_within u h =
        ⊎_elim
        (λ y. let b = (without_iff n_t t u).0 y in stays nP u (plain_told m s' p' r u) b.0 (ag.within u b.1))
        (λ y. let x = (table_notices m e s' p' r u).0 y in told_within x.0 u x.2 x.3 x.1 x.4 x.5)
        (either (without n_t t u) (table_told m e s' p' r u) h)

    pub ran_agree : Agree m bc s' p' n_p' n_t'
    ran_agree = record {
      plain = ran_plain nP ag.plain;
      within = ran_within;
      table = ran_table e bc placed own n_t ag.table;
    }

-- Thread t begins to wait at region r: the guard is false, so nothing is asked of it

module _ (m : Monitor) (s : ℕ) (p : Threads) (t r : ℕ) (guard : m.holds (m.guard_of r) s ≡ false)
    (idle_or_due : is_waiting (p.place t) ≡ false) where
  abbrev q' : Threads
  q' = begin_wait p t r

  -- a waiter whose guard holds waited before
  waited_before : (g u : ℕ) → Waits m q' g u → m.holds g s ≡ true → (u ≡ t → ⊥) × Waits m p g u
  unfolding Waits
  waited_before g u w h = split_eq u t
      (λ q. let z : waiting r ≡ waiting w.0 = sym (began_own p t r) ∙ ap q'.place (sym q) ∙ w.1 in
      let k : r ≡ w.0 = cc in
      clash h (ap (λ (x : ℕ). m.holds x s) (sym w.2 ∙ ap m.guard_of (sym k)) ∙ guard))
      (λ q. (q, waits_at m q' p g u (sym (began_other p t r u q)) w))

  -- the line on a guard that holds is as it was
  line_then : (g : ℕ) → m.holds g s ≡ true → line m q' g ≡ line m p g
  line_then g h = began_line m p t r g idle_or_due (λ e. clash h (ap (λ (x : ℕ). m.holds x s) (sym e) ∙ guard))

  pub waited_plain : (n : ℕ → Bool) → PlainPoint m s p n → PlainPoint m s q' n
  unfolding is_waiting
  waited_plain n pt = record {
    is_kept = pt.is_kept;
    waits = λ u h. split_eq u t
        (λ q. ap (λ (v : ℕ). is_waiting (q'.place v)) q ∙ ap is_waiting (began_own p t r))
        (λ q. ap is_waiting (began_other p t r u q) ∙ pt.waits u h);
    all = λ g u w h. pt.all g u (waited_before g u w h).1 h;
  }

  pub waited_table : (bc : ℕ → Bool) (n : ℕ → Bool) → TablePoint m bc s p n → TablePoint m bc s q' n
  waited_table bc n tp = record {
    is_kept = tp.is_kept;
    first = λ g u h f. tp.first g u h (subst (λ (l : List ℕ). Front l u) (line_then g h) f);
    every = λ g u w h b. tp.every g u (waited_before g u w h).1 h b;
  }

  pub waited_agree : (bc : ℕ → Bool) (nP n_t : ℕ → Bool) → Agree m bc s p nP n_t → Agree m bc s q' nP n_t
  waited_agree bc nP n_t ag = record {
    plain = waited_plain nP ag.plain;
    within = ag.within;
    table = waited_table bc n_t ag.table;
  }

-- A recheck of thread t, which waits at region r: the guard is false, and the notice is used up

module _ (m : Monitor) (s : ℕ) (p : Threads) (t r : ℕ) (guard : m.holds (m.guard_of r) s ≡ false)
    (here : p.place t ≡ waiting r) where
  other_waiter : (g u : ℕ) → Waits m p g u → m.holds g s ≡ true → u ≡ t → ⊥
  unfolding Waits
  other_waiter g u w h q =
      let z : waiting r ≡ waiting w.0 = sym here ∙ ap p.place (sym q) ∙ w.1 in
      let k : r ≡ w.0 = cc in
      clash h (ap (λ (x : ℕ). m.holds x s) (sym w.2 ∙ ap m.guard_of (sym k)) ∙ guard)

  pub rechecked_plain : (n : ℕ → Bool) → PlainPoint m s p n → PlainPoint m s p (without n t)
  rechecked_plain n pt = record {
    is_kept = pt.is_kept;
    waits = λ u h. pt.waits u ((without_iff n t u).0 h).1;
    all = λ g u w h. (without_iff n t u).1 (other_waiter g u w h, pt.all g u w h);
  }

  pub rechecked_table : (bc : ℕ → Bool) (n : ℕ → Bool) → TablePoint m bc s p n → TablePoint m bc s p (without n t)
  rechecked_table bc n tp = record {
    is_kept = tp.is_kept;
    first = λ g u h f. (without_iff n t u).1 (other_waiter g u (front_waits m p g u f) h, tp.first g u h f);
    every = λ g u w h b. (without_iff n t u).1 (other_waiter g u w h, tp.every g u w h b);
  }

  pub rechecked_agree : (bc : ℕ → Bool) (nP n_t : ℕ → Bool) → Agree m bc s p nP n_t
      → Agree m bc s p (without nP t) (without n_t t)
  rechecked_agree bc nP n_t ag = record {
    plain = rechecked_plain nP ag.plain;
    within = λ u h. let b = (without_iff n_t t u).0 h in (without_iff nP t u).1 (b.0, ag.within u b.1);
    table = rechecked_table bc n_t ag.table;
  }

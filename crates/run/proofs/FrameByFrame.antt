-- A run of a list, frame by frame: what the code's record shows on the way. That the table's machine has stopped where
-- the plain one does is demand 3.
use Prim.Native.Nat.{ℕ, suc, ◌+◌, ◌*◌, ◌<◌, ◌≤◌}
use native.Mathlib.Omega.{arith}
use native.Mathlib.Numerals.{add-one}
use mathlib.Core.Path.{◌≡◌, refl, sym, ap, ap₂, ◌∙◌, subst}
use Rattle.std.specs.Prelude.{⊤, Option, Some, None, Result, Ok, Err}
use mathlib.Core.Bool.{Bool, true, false, true≢false}
use mathlib.Core.List.{List, [], ◌∷◌, ◌++◌}
use lib.ListN.{length, take, drop, get_or, length-take, take-append-drop}
use lib.Seq.{drop-cons, take-suc, take_all}
use Rattle.machine.specs.Monitor.{Monitor, Config, Run, accepted, stopped, all_idle}
use Rattle.machine.specs.Decide.Step.{Outcome, moved, refused, step, run}
use Rattle.machine.specs.Monitor as machine
use Rattle.machine.specs.Agreement.{Checked, Agrees, plain_run, table_run}
use Rattle.machine.proofs.Agreement.{agrees, plain_every_point, table_every_point}
use Rattle.machine.proofs.Points.{ToldAt}
use Rattle.machine.proofs.RulesDecided.{run_on, run_stop, refused_number, told_decides}
use Rattle.machine.proofs.Reached.{start_reached, step_reached}
use Rattle.meaning.specs.Decide.Frames.{frames_of, frames}
use Rattle.demands.proofs.Prefixes.{run_append, run_stopped}
use Rattle.stepper.specs.Answered.{answered, number_of}
use Rattle.stepper.specs.declared.Refusal.{Refusal}
use Rattle.stepper.specs.declared.Refusal.TheVariants.{Misplaced, NotAllowed}
use Rattle.stepper.specs.declared.Run as code
use Rattle.stepper.specs.declared.Frame.{Frame}
use Rattle.stepper.specs.declared.Outcome as coded
use Rattle.stepper.specs.Shown.{of_machine, Shows, Steps, step_by, told_on, frame_of, number_in}
use Rattle.trace.specs.Decoded.{numbers_at}
use Rattle.trace.proofs.FramesAt.{frame_at, frames_end}
use Rattle.trace.specs.declared.Numbers.{Numbers}
use Rattle.run.specs.Way.{run_of, At, TableAt, goes_on, has_stopped, lost_by, stop_number, stop_frame, Way, BothStop}
use Rattle.run.specs.Ended.{EndsAs}
use Rattle.run.specs.declared.frames.Stop.{Stop}
use Rattle.run.specs.declared.frames.Going.{Going}
use Rattle.run.specs.declared.frames.Ended.{Ended}

-- ---- the frame that is next

-- before the end of the bytes there is a frame: its line, and the list up to it and from it on
pub record Here (bytes : List ℕ) (fs : List machine.Frame) (k : ℕ) (f : machine.Frame) : Type 0 where
  pub thread : f.thread < 16
  pub more : k < length fs
  pub front : take (suc k) fs ≡ take k fs ++ (f ∷ [])
  pub whole : fs ≡ take k fs ++ (f ∷ drop (suc k) fs)

pub frame_here : (bytes : List ℕ) (fs : List machine.Frame) (k at : ℕ) → frames_of bytes ≡ frames fs → at ≡ 7 * k
    → at < length bytes → (f : Frame) (n : Numbers) → n ≡ numbers_at bytes at
    → f ≡ record { thread = n.thread; region = n.region; flag = n.flag } → Here bytes fs k (frame_of f)
unfolding frame_of
frame_here bytes fs k at e s h f n l i =
    let d : machine.Frame = record { thread = 0; region = 0; flag = false } in
    let w = (frames_end e).whole in
    let more : k < length fs = omega arith in
    let x = frame_at e d k more in
    let g = get_or fs k d in
    let q : n ≡ record { thread = g.thread; region = g.region; flag = g.flag } =
    l ∙ ap (numbers_at bytes) s ∙ x.numbers in
    let t : f.thread ≡ g.thread = ap (λ (y : Frame). y.thread) i ∙ ap (λ (y : Numbers). y.thread) q in
    let r : f.region ≡ g.region = ap (λ (y : Frame). y.region) i ∙ ap (λ (y : Numbers). y.region) q in
    let b : f.flag ≡ g.flag = ap (λ (y : Frame). y.flag) i ∙ ap (λ (y : Numbers). y.flag) q in
    let same : record { thread = f.thread; region = f.region; flag = f.flag } ≡ g =
    λ j. record { thread = t j; region = r j; flag = b j } in
    let low = x.thread in
    record {
      thread = omega arith;
      more = more;
      front = rw same (take-suc fs k d more);
      whole = rw same (sym (take-append-drop k fs) ∙ ap (λ r. take k fs ++ r) (drop-cons fs k d more));
    }

-- ---- a machine at a point

pub at_start : (m : Monitor) (w : Bool) (s : ℕ) (fs : List machine.Frame) (r : code.Run) → Shows w r (all_idle s)
    → m.kept s ≡ true → At m w s fs r 0
unfolding run
at_start m w s fs r shows k =
    record { point = all_idle s; taken = refl; shows = shows; reached = start_reached m s k }

-- at which it has told those whom its notices are for
pub at_told : (m : Monitor) → Checked m → (w : Bool) (s : ℕ) → m.kept s ≡ true → (fs : List machine.Frame) {r : code.Run}
    {k : ℕ} (x : At m w s fs r k) → ToldAt m w x.point
unfolding ToldAt told_on plain_run table_run
at_told m ok true s h fs {k = k} x = table_every_point m ok s h (take k fs) x.point x.taken
at_told m ok false s h fs {k = k} x = plain_every_point m ok s h (take k fs) x.point x.taken

module _ (m : Monitor) (w : Bool) (s : ℕ) (fs : List machine.Frame) {r : code.Run} {k : ℕ} (x : At m w s fs r k)
    (below : k ≤ length fs) where
  -- from which it goes on
  on_from : (gs : List machine.Frame) → run_of m w s (take k fs ++ gs) ≡ run m (told_on m w) k x.point gs
  on_from gs =
      let here : 0 + length (take k fs) ≡ k = simp length-take (omega arith) in
      run_append m (told_on m w) 0 (all_idle s) x.point (take k fs) gs x.taken
      ∙ ap (λ (n : ℕ). run m (told_on m w) n x.point gs) here

  module _ {bytes : List ℕ} {f : machine.Frame} (h : Here bytes fs k f) where
    -- a frame that is taken leads to the next point
    next_taken : (d : Config) → step m (told_on m w) x.point f ≡ moved d → run_of m w s (take (suc k) fs) ≡ accepted d
    unfolding run
    next_taken d e =
        ap (run_of m w s) h.front ∙ on_from (f ∷ []) ∙ run_on m (told_on m w) k x.point d f [] e

    at_next : Checked m → (d : Config) → step m (told_on m w) x.point f ≡ moved d → (r' : code.Run) → Shows w r' d
        → At m w s fs r' (suc k)
    at_next ok d e r' shows =
        record {
          point = d;
          taken = next_taken d e;
          shows = shows;
          reached = step_reached m ok (told_on m w) x.point d f e x.reached;
        }

    -- a frame that is refused ends the run, of the whole list too
    next_stops : (a : ℕ) → step m (told_on m w) x.point f ≡ refused a → run_of m w s (take (suc k) fs) ≡ stopped a k
    next_stops a e =
        ap (run_of m w s) h.front ∙ on_from (f ∷ []) ∙ run_stop m (told_on m w) k x.point f [] a e

    all_stop : (a : ℕ) → step m (told_on m w) x.point f ≡ refused a → run_of m w s fs ≡ stopped a k
    all_stop a e =
        ap (run_of m w s) h.whole ∙ on_from (f ∷ drop (suc k) fs)
        ∙ run_stop m (told_on m w) k x.point f (drop (suc k) fs) a e

-- demand 3: the table's machine takes no frame that the plain one refuses
not_alone : (m : Monitor) → Checked m → (s : ℕ) → m.kept s ≡ true → (fs : List machine.Frame) (k : ℕ) → k < length fs
    → (d : Config) → run_of m true s (take (suc k) fs) ≡ accepted d
    → (a j : ℕ) → run_of m false s (take (suc k) fs) ≡ stopped a j → ⊥
unfolding Agrees plain_run table_run told_on
not_alone m ok s kept fs k l d e a j q =
    let x = (agrees m ok s kept fs).every_point (suc k) l d e in
    let y = x.1 in
    let z : ◌≡◌ {A = ℕ} 0 1 = cc in
    omega arith

-- ---- where the table's machine has stopped

pub some_number : (r : Refusal) → number_of r ≡ 0 → ⊥
unfolding number_of
some_number Misplaced z = absurd (omega arith)
some_number NotAllowed z = absurd (omega arith)

-- what is no refusal is taken
pub answered_ok : (a : Result ⊤ Refusal) → ((r : Refusal) → a ≡ Err r → ⊥) → a ≡ Ok tt
answered_ok (Ok u) h = refl
answered_ok (Err r) h = absurd (h r refl)

-- nothing has stopped it before
pub lost_first : (lost : Option Stop) (a : Result ⊤ Refusal) (k : ℕ) → stop_number lost ≡ 0 → (answered a ≡ 0 → ⊥)
    → (stop_number (lost_by lost a k) ≡ answered a) × (stop_frame (lost_by lost a k) ≡ k)
unfolding lost_by stop_number stop_frame answered
lost_first (Some stop) a k z h = absurd (some_number stop.refusal z)
lost_first None (Ok u) k z h = absurd (h refl)
lost_first None (Err r) k z h = (refl, refl)

-- it has stopped before, or takes the frame
pub lost_kept : (lost : Option Stop) (a : Result ⊤ Refusal) (k : ℕ) → (stop_number lost ≡ 0 → ⊥) → lost_by lost a k ≡ lost
unfolding lost_by stop_number
lost_kept (Some stop) a k h = refl
lost_kept None a k h = absurd (h refl)

lost_taken : (lost : Option Stop) (a : Result ⊤ Refusal) (k : ℕ) → answered a ≡ 0 → lost_by lost a k ≡ lost
unfolding lost_by answered
lost_taken (Some stop) a k z = refl
lost_taken None (Ok u) k z = refl
lost_taken None (Err r) k z = absurd (some_number r z)

-- ---- one frame more on both machines

module _ (m : Monitor) (ok : Checked m) (s : ℕ) (kept : m.kept s ≡ true) (fs : List machine.Frame) (g : Going) (k : ℕ)
    (way : Way m s fs g k) {bytes : List ℕ} (f : Frame) (h : Here bytes fs k (frame_of f)) (o : coded.Outcome)
    (steps : (w : Bool) (x : At m w s fs g.run k) → Steps w o (step_by m w x.point f)) where
  -- where the table's machine has stopped behind the frame
  abbrev lost : Option Stop
  lost = lost_by g.lost o.answers.table k

  -- what a machine makes of the frame
  data Took (w : Bool) (x : At m w s fs g.run k) : Type 0 where
    took : number_in w o ≡ 0 → (d : Config) → step m (told_on m w) x.point (frame_of f) ≡ moved d → Shows w o.run d
        → Took w x
    stops : (number_in w o ≡ 0 → ⊥) → step m (told_on m w) x.point (frame_of f) ≡ refused (number_in w o) → Took w x

  took_by : (w : Bool) (x : At m w s fs g.run k) → Took w x
  unfolding step_by Steps
  took_by w x = go (step m (told_on m w) x.point (frame_of f)) refl (steps w x)
    where
      go : (y : Outcome) → step m (told_on m w) x.point (frame_of f) ≡ y → Steps w o y → Took w x
      go (moved d) e q = took q.0 d e q.1
      go (refused a) e q =
          let n = refused_number (told_decides m (told_on m w)) x.point (frame_of f) a e in
          stops (λ z. omega arith) (e ∙ ap refused (sym q))

  -- the table's machine behind the frame
  table_next : TableAt m s fs g.run g.lost k → TableAt m s fs o.run lost (suc k)
  unfolding of_machine
  table_next (goes_on z i x) = go (took_by true x)
    where
      go : Took true x → TableAt m s fs o.run lost (suc k)
      go (took n d e q) =
          subst (λ (l : Option Stop). TableAt m s fs o.run l (suc k)) (sym (lost_taken g.lost o.answers.table k n))
          (goes_on z i (at_next m true s fs x way.below h ok d e o.run q))
      go (stops n e) =
          let l = lost_first g.lost o.answers.table k z n in
          has_stopped (λ q. n (sym l.0 ∙ q))
          (next_stops m true s fs x way.below h (answered o.answers.table) e ∙ sym (ap₂ stopped l.0 l.1))
  table_next (has_stopped n e) =
      subst (λ (l : Option Stop). TableAt m s fs o.run l (suc k)) (sym (lost_kept g.lost o.answers.table k n))
      (has_stopped n
      (ap (run_of m true s) h.front
      ∙ run_stopped m (told_on m true) 0 (all_idle s) (stop_number g.lost) (stop_frame g.lost) (take k fs) (frame_of f ∷ []) e))

  way_next : answered o.answers.plain ≡ 0 → Way m s fs (record { run = o.run; lost = lost }) (suc k)
  unfolding of_machine
  way_next zero_number = go (took_by false way.plain)
    where
      go : Took false way.plain → Way m s fs (record { run = o.run; lost = lost }) (suc k)
      go (took n d e q) = record {
        below = let l = h.more in omega arith;
        plain = at_next m false s fs way.plain way.below h ok d e o.run q;
        table = table_next way.table;
      }
      go (stops n e) = absurd (n zero_number)

  -- the plain machine refuses the frame, and the table's has stopped
  table_stops : (answered o.answers.plain ≡ 0 → ⊥) → run_of m false s (take (suc k) fs) ≡ stopped (answered o.answers.plain) k
      → TableAt m s fs g.run g.lost k
      → (run_of m true s fs ≡ stopped (stop_number lost) (stop_frame lost)) × (stop_number lost ≡ 0 → ⊥)
  unfolding of_machine
  table_stops other ends (goes_on z i x) = go (took_by true x)
    where
      go : Took true x → (run_of m true s fs ≡ stopped (stop_number lost) (stop_frame lost)) × (stop_number lost ≡ 0 → ⊥)
      go (took n d e q) =
          absurd
          (not_alone m ok s kept fs k h.more d (next_taken m true s fs x way.below h d e) (answered o.answers.plain) k ends)
      go (stops n e) =
          let l = lost_first g.lost o.answers.table k z n in (
            all_stop m true s fs x way.below h (answered o.answers.table) e ∙ sym (ap₂ stopped l.0 l.1),
            λ q. n (sym l.0 ∙ q),
          )
  table_stops other ends (has_stopped n e) =
      subst (λ (l : Option Stop). (run_of m true s fs ≡ stopped (stop_number l) (stop_frame l)) × (stop_number l ≡ 0 → ⊥))
      (sym (lost_kept g.lost o.answers.table k n)) (
        ap (run_of m true s) h.whole
            ∙ run_stopped m (told_on m true) 0 (all_idle s) (stop_number g.lost) (stop_frame g.lost) (take k fs)
            (frame_of f ∷ drop (suc k) fs) e,
        n,
      )

  both_stop : (r : Refusal) → o.answers.plain ≡ Err r
      → BothStop m s fs g (record { plain = Some (record { refusal = r; frame = k }); table = lost; run = g.run }) k
  unfolding of_machine stop_number stop_frame answered
  both_stop r refuses = go (took_by false way.plain)
    where
      same : answered o.answers.plain ≡ number_of r
      same = ap answered refuses

      other : answered o.answers.plain ≡ 0 → ⊥
      other z = some_number r (sym same ∙ z)

      go : Took false way.plain
          → BothStop m s fs g (record { plain = Some (record { refusal = r; frame = k }); table = lost; run = g.run }) k
      go (took n d e q) = absurd (other n)
      go (stops n e) =
          let t = table_stops other (next_stops m false s fs way.plain way.below h (answered o.answers.plain) e) way.table in
          record {
            plain = all_stop m false s fs way.plain way.below h (answered o.answers.plain) e ∙ ap (λ (a : ℕ). stopped a k) same;
            table = t.0;
            refused = t.1;
            frame = refl;
            before = refl;
          }

  pub passed_on : o.answers.plain ≡ Ok tt → Way m s fs (record { run = o.run; lost = lost }) (k + 1)
  unfolding answered
  passed_on takes = rw add-one (way_next (ap answered takes))

  pub passed_stop : (r : Refusal) → o.answers.plain ≡ Err r
      → BothStop m s fs g (record { plain = Some (record { refusal = r; frame = k }); table = lost; run = g.run }) k
  passed_stop = both_stop

-- ---- the end

module _ (m : Monitor) (s : ℕ) (fs : List machine.Frame) where
  -- past the last frame every machine that goes on has taken all
  pub ends_all : (bytes : List ℕ) (g : Going) (k : ℕ) → Way m s fs g k → frames_of bytes ≡ frames fs
      → length bytes ≤ 7 * k
      → (w : Bool) → EndsAs w (run_of m w s) fs (record { plain = None; table = g.lost; run = g.run }) (run_of m w s fs)
  unfolding of_machine EndsAs stop_number stop_frame
  ends_all bytes g k way read l = each
    where
      e : Ended
      e = record { plain = None; table = g.lost; run = g.run }

      all : take k fs ≡ fs
      all = let w = (frames_end read).whole in take_all k fs (omega arith)

      each : (w : Bool) → EndsAs w (run_of m w s) fs e (run_of m w s fs)
      each false =
          let x = way.plain in
          subst (EndsAs false (run_of m false s) fs e) (sym x.taken ∙ ap (run_of m false s) all)
          (record { number = refl; frame = refl; shows = x.shows })
      each true = go way.table
        where
          go : TableAt m s fs g.run g.lost k → EndsAs true (run_of m true s) fs e (run_of m true s fs)
          go (goes_on z i x) =
              subst (EndsAs true (run_of m true s) fs e) (sym x.taken ∙ ap (run_of m true s) all)
              (record { number = z; frame = i; shows = x.shows })
          go (has_stopped n q) =
              subst (EndsAs true (run_of m true s) fs e) (sym q ∙ ap (run_of m true s) all)
              (record {
                number = refl;
                frame = refl;
                last = λ z. absurd (true≢false z);
              })

  -- the plain machine refuses frame k
  pub ends_stopped : (g : Going) (e : Ended) (k : ℕ) → Way m s fs g k → BothStop m s fs g e k
      → (w : Bool) → EndsAs w (run_of m w s) fs e (run_of m w s fs)
  unfolding of_machine EndsAs
  ends_stopped g e k way stop false =
      let x = way.plain in
      subst (EndsAs false (run_of m false s) fs e) (sym stop.plain)
      (record { number = refl; frame = stop.frame; last = λ z. (x.point, x.taken, rw stop.before x.shows) })
  ends_stopped g e k way stop true =
      subst (EndsAs true (run_of m true s) fs e) (sym stop.table)
      (record {
        number = refl;
        frame = refl;
        last = λ z. absurd (true≢false z);
      })

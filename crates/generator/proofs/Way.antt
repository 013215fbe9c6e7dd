-- The way of the generator: what is so behind the first k frames of a load, at its start, one frame further on, and where it
-- ends.
use Prim.Native.Nat.{ℕ, zero, suc, ◌+◌, ◌*◌, ◌-◌, ◌%◌, ◌≤◌, ◌<◌}
use native.Mathlib.Nat.{zero-add, mod-lt}
use native.Mathlib.Omega.{arith}
use mathlib.Core.Path.{◌≡◌, refl, sym, ap, ◌∙◌, subst}
use mathlib.Core.Bool.{true, false, false≢true}
use mathlib.Core.Logic.{inl, inr}
use mathlib.Core.List.{List, [], ◌∷◌, ◌++◌, append_assoc, append-nil}
use lib.ListN.{length, get_or, replicate, length-append}
use Rattle.logic.proofs.Indices.{at_index, get_d_elem}
use Rattle.machine.specs.Monitor.{Monitor, Config, Frame, all_idle}
use Rattle.machine.specs.Rules.{PlainNotices, Rule}
use Rattle.machine.specs.Agreement.{Checked}
use Rattle.machine.specs.Load.{drawn, upper, Among, Takes}
use Rattle.machine.specs.Decide.Step.{moved, step, plain_told, is_due, run}
use Rattle.machine.specs.Decide.Load.{allowed_frames, load_from}
use Rattle.machine.proofs.Load.{allowed_list, load_none, load_takes}
use Rattle.machine.proofs.Offers.{due_last}
use Rattle.machine.proofs.Points.{idle_plain}
use Rattle.machine.proofs.Reached.{Reached, start_reached, rule_reached}
use Rattle.machine.proofs.RulesDecided.{plain_decides, run_on}
use Rattle.machine.proofs.Simulation.{run_plain}
use Rattle.meaning.specs.Trace.{frame_line, lines_of}
use Rattle.meaning.specs.Load.{made_of}
use Rattle.meaning.proofs.Frames.{lines_seven}
use Rattle.digits.specs.Written.{over, Writes}
use Rattle.digits.proofs.Writing.{written_none, written_same, written_more, written_length}
use Rattle.lines.specs.Written.{PutsLine}
use Rattle.stepper.specs.declared.Run.{Run}
use Rattle.stepper.specs.declared.Frame as code
use Rattle.stepper.specs.declared.Outcome.{Outcome}
use Rattle.stepper.specs.Shown.{Shows, Steps, step_by, told_on, frame_of}
use Rattle.std.specs.Prelude.{Option, Some}
use Rattle.allowed.specs.Offered.{PlainAt, Chooses}
use Rattle.generator.specs.Making.{MakesFrames}

-- Lists: what stands at an index, the lines of one frame more, zeros

among_at : (fs : List Frame) (i : ℕ) (d : Frame) → i < length fs → Among fs (get_or fs i d)
unfolding Among
among_at [] i d h = absurd (omega arith)
among_at (f ∷ fs) zero d h = inl refl
among_at (f ∷ fs) (suc i) d h = inr (among_at fs i d (omega arith))

lines_more : (fs : List Frame) (f : Frame) → lines_of (fs ++ (f ∷ [])) ≡ lines_of fs ++ frame_line f
unfolding lines_of
lines_more [] f = append-nil (frame_line f)
lines_more (g ∷ fs) f = rw (lines_more fs f, append_assoc)

pub zeros : (n i : ℕ) → get_or {A = ℕ} (replicate n 0) i 0 ≡ 0
zeros zero i = refl
zeros (suc n) zero = refl
zeros (suc n) (suc i) = zeros n i

-- The frame that a draw takes at a point: it is one of the first n threads', and leads to the next point

pub record Next (m : Monitor) (n : ℕ) (c : Config) (x : ℕ) (f : Frame) : Type 0 where
  pub below : f.thread < n
  pub point : Config
  pub rule : Rule m (PlainNotices m) c f point
  pub load : (j : ℕ) → load_from m n (suc j) c x ≡ f ∷ load_from m n j point (drawn x)

pub next_of : (m : Monitor) (n : ℕ) (c : Config) (x draw : ℕ) (r : Option code.Frame) (chosen : code.Frame) → Reached m c
    → draw ≡ upper (drawn x) → Chooses (allowed_frames m n c) draw r → r ≡ Some chosen → Next m n c x (frame_of chosen)
unfolding Takes
next_of m n c x draw r chosen reached e ch found =
    let fs = allowed_frames m n c in
    let f = frame_of chosen in
    let inside : draw % length fs < length fs = mod-lt draw (ch.some chosen found) in
    let at = at_index fs (draw % length fs) inside in
    let same : f ≡ at.0 = ch.taken chosen found at.0 ∙ get_d_elem fs (draw % length fs) at.0 at.0 at.1 in
    let t =
    ((allowed_list m n c reached.within).exactly f).0 (rw (ch.taken chosen found f) (among_at fs (draw % length fs) f inside)) in
    record {
      below = t.0;
      point = t.1.0;
      rule = t.1.1;
      load = λ j. load_takes m n j c t.1.0 x f fs refl (rw (← e, same) at.1) t.1.1;
    }

-- Behind the first k frames

pub record OnWay (m : Monitor) (n wanted s seed : ℕ) (before : List ℕ) (r : Run) (number last at k : ℕ) (out : List ℕ) :
    Type 0 where
  pub done : List Frame
  pub point : Config
  pub whole : load_from m n wanted (all_idle s) seed ≡ done ++ load_from m n (wanted - k) point number
  pub few : k ≤ wanted
  pub count : length done ≡ k
  pub here : PlainAt m n r last point
  pub written : Writes (lines_of done) before 0 at out

pub way_start : (m : Monitor) (n wanted s seed : ℕ) (before : List ℕ) (r : Run) → m.kept s ≡ true → 0 < n
    → Shows false r (all_idle s) → OnWay m n wanted s seed before r seed 0 0 0 before
unfolding lines_of all_idle is_due
way_start m n wanted s seed before r kept some shows = record {
  done = [];
  point = all_idle s;
  whole = ap (λ (j : ℕ). load_from m n j (all_idle s) seed) (omega arith);
  few = omega arith;
  count = refl;
  here = record {
    shows = shows;
    reached = start_reached m s kept;
    point = idle_plain m s kept;
    below = some;
    due_last = λ u l h. absurd (false≢true h);
  };
  written = written_none before 0;
}

module _ {m : Monitor} {n wanted s seed : ℕ} {before : List ℕ} {r : Run} {number last at k : ℕ} {out : List ℕ}
    (w : OnWay m n wanted s seed before r number last at k out) where
  long : length (lines_of w.done) ≡ 7 * k
  long = lines_seven w.done ∙ ap (λ (j : ℕ). 7 * j) w.count

  -- one frame further on
  pub way_next : Checked m → 7 * wanted ≤ length before → k < wanted → (f : code.Frame)
      → Next m n w.point number (frame_of f) → (o : Outcome) → Steps false o (step_by m false w.point f) → {y : ℕ}
      → y ≡ drawn number → {at' : ℕ} {out' : List ℕ}
      → PutsLine (frame_line (frame_of f)) (at + 7 ≤ length out) out at at' out'
      → OnWay m n wanted s seed before o.run y f.thread at' (k + 1) out'
  unfolding Steps step_by told_on frame_of run
  way_next ok room h f x o steps {y} e put =
      let g = frame_of f in
      let takes : step m (plain_told m) w.point g ≡ moved x.point =
      ((plain_decides m).moves w.point g x.point).1 x.rule in
      let more : wanted - k ≡ suc (wanted - (k + 1)) = omega arith in
      let seven = long in
      let place = w.written.behind in
      let size = written_length w.written (omega arith) in
      record {
        done = w.done ++ (g ∷ []);
        point = x.point;
        whole = w.whole ∙ ap (λ (fs : List Frame). w.done ++ fs)
            (ap (λ (j : ℕ). load_from m n j w.point number) more ∙ x.load (wanted - (k + 1))
            ∙ ap (λ (z : ℕ). g ∷ load_from m n (wanted - (k + 1)) x.point z) (sym e))
            ∙ sym (append_assoc w.done (g ∷ []) (load_from m n (wanted - (k + 1)) x.point y));
        few = omega arith;
        count = length-append w.done (g ∷ []) ∙ omega (arith, w.count);
        here = record {
          shows = (subst (Steps false o) takes steps).1;
          reached = rule_reached m ok (PlainNotices m) x.rule w.here.reached;
          point = run_plain m ok (g ∷ []) 0 _ _ _ w.here.point x.point
              (run_on m (plain_told m) 0 w.point x.point g [] takes);
          below = x.below;
          due_last = due_last x.rule;
        };
        written = written_same (sym (lines_more w.done g))
            (written_more w.written (omega arith) (put.written (omega arith)));
      }

  -- where nothing is left
  ended : load_from m n (wanted - k) w.point number ≡ [] → MakesFrames m seed n wanted s k before out
  unfolding made_of over
  ended none_left =
      let all : load_from m n wanted (all_idle s) seed ≡ w.done =
      w.whole ∙ ap (λ (fs : List Frame). w.done ++ fs) none_left ∙ append-nil w.done in
      record { count = rw all (sym w.count); bytes = rw (all, w.written.bytes, zero-add) }

  -- as many as are wanted
  pub ends_all : wanted ≤ k → MakesFrames m seed n wanted s k before out
  unfolding load_from
  ends_all h =
      let few = w.few in
      let nought : wanted - k ≡ 0 = omega arith in
      ended (ap (λ (j : ℕ). load_from m n j w.point number) nought)

  -- none is allowed
  pub ends_none : k < wanted → allowed_frames m n w.point ≡ [] → MakesFrames m seed n wanted s k before out
  ends_none h e =
      let more : wanted - k ≡ suc (wanted - (k + 1)) = omega arith in
      ended
      (ap (λ (j : ℕ). load_from m n j w.point number) more ∙ load_none m n (wanted - (k + 1)) w.point number e)

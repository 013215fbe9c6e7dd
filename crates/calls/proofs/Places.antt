-- What a loaded file says of placing its table.
use Prim.Native.Nat.{ℕ}
use native.Mathlib.Omega.{arith}
use mathlib.Core.Path.{◌≡◌, refl, sym, subst}
use mathlib.Core.Bool.{Bool, true, false}
use mathlib.Core.List.{List}
use lib.ListN.{length}
use lib.Dec.{ltb}
use Rattle.syntax.specs.Tree.{Monitor}
use Rattle.meaning.specs.Answer.{answer, accepted}
use Rattle.meaning.specs.Decide.Check.{check}
use Rattle.meaning.specs.Decide.Calls.{written, place}
use Rattle.meaning.specs.Decide.Choice.{chosen_bits}
use Rattle.meaning.specs.Decide.Touch.{pairs_of}
use Rattle.meaning.specs.Model.{model}
use Rattle.meaning.specs.Decide.Table.{table_of}
use Rattle.logic.proofs.Bools.{different}
use Rattle.answers.specs.Says.{Says, Is, answer_of}
use Rattle.answers.specs.declared.Answer as code
use Rattle.table.specs.Written.{placed_of, buffer_of, WritesTable, PutsTable}
use Rattle.std.specs.Prelude.{Result, Ok, Err}
use Rattle.table.specs.declared.TooShort.{TooShort}
use Rattle.table.proofs.Monitors.{table_is}
use Rattle.loader.specs.Loading.{Loads}
use Rattle.loader.specs.declared.Loaded.{Loaded}
use Rattle.calls.specs.Results.{Places, EntriesOf}
use Rattle.calls.specs.declared.Placing.{Placing}
use Rattle.calls.proofs.Loaded.{monitor_of, refusal_of}

-- an answer, and no table
abbrev pub Refuses : Placing → code.Answer → Type 0
Refuses p a = (p.answer ≡ a) × (p.length ≡ 0) × (p.chosen ≡ 0) × (p.pairs ≡ 0)

module _ {file : List ℕ} {l : Loaded} {kept holds after : List ℕ} (loads : Loads file l kept holds after) where
  says_accepted : (m : Monitor) → check file ≡ accepted m → Says l.answer (answer 0 0 0)
  unfolding Is answer_of
  says_accepted m e = rw e at loads.verdict

  -- a refused file: nothing is written
  pub not_placed : (buffer : List ℕ) (p : Placing) → Refuses p l.answer → (l.answer.number ≡ 0 → ⊥)
      → Places (place file buffer) p buffer
  unfolding place Is answer_of
  not_placed buffer p (same, length, chosen, pairs) other =
      let (a, e) = refusal_of file l.answer loads.verdict other in
      rw (e, place) (record {
        answer = subst (λ (x : code.Answer). Says x a) (sym same) (rw e at loads.verdict);
        length = length;
        chosen = chosen;
        pairs = pairs;
        bytes = refl;
      })

  -- an accepted file: its entries are filled, and its table is written
  module _ (z : l.answer.number ≡ 0) (entries : List ℕ) {buffer behind : List ℕ} {r : Result ℕ TooShort}
      (fill : EntriesOf file entries)
      (write : PutsTable entries l.layout.regions l.layout.guards buffer r behind) where
    abbrev m : Monitor
    m = (monitor_of file l.answer loads.verdict z).0

    e : check file ≡ accepted m
    e = (monitor_of file l.answer loads.verdict z).1

    abbrev table : List ℕ
    table = table_of (model m)

    w : WritesTable (table_of (model m)) buffer r behind
    unfolding model EntriesOf
    w =
        let k = loads.monitored m e in
        let rs = sym k.region_count in
        let gs = sym k.guard_count in
        let few_rs = k.held.few_regions in
        let few_gs = k.held.few_guards in
        rw (table_is (model m) _ _ _ rs gs (fill m e)) (write.written (omega arith) (omega arith))

    pub placed : (n : ℕ) → r ≡ Ok n → Places (place file buffer) (record {
      answer = l.answer;
      length = n;
      chosen = l.choice.chosen;
      pairs = l.pairs;
    }) behind
    unfolding place written placed_of buffer_of
    placed n at_length = rw (e, place) (go (ltb (length buffer) (length table)) refl)
      where
        go : (b : Bool) → ltb (length buffer) (length table) ≡ b
            → Places (written table (chosen_bits m) (pairs_of m) buffer)
            (record { answer = l.answer; length = n; chosen = l.choice.chosen; pairs = l.pairs }) behind
        go true t = let s : r ≡ Err (record {}) = rw (t, placed_of) at w.answer in different (cc)
        go false t =
            let s : r ≡ Ok (length table) = rw (t, placed_of) at w.answer in
            rw (t, written)
            (record {
              answer = says_accepted m e;
              length = cc;
              chosen = (loads.monitored m e).chosen.choice.bits;
              pairs = (loads.monitored m e).pairs;
              bytes = rw (t, buffer_of) at w.buffer;
            })

    pub too_short : (a : code.Answer) → Says a (answer 10 0 0) → (p : Placing) → Refuses p a → r ≡ Err (record {})
        → Places (place file buffer) p behind
    unfolding place written placed_of buffer_of
    too_short a s p (same, none, chosen, pairs) at_short = rw (e, place) (go (ltb (length buffer) (length table)) refl)
      where
        go : (b : Bool) → ltb (length buffer) (length table) ≡ b
            → Places (written table (chosen_bits m) (pairs_of m) buffer) p behind
        go true t =
            rw (t, written) (record {
              answer = subst (λ (x : code.Answer). Says x (answer 10 0 0)) (sym same) s;
              length = none;
              chosen = chosen;
              pairs = pairs;
              bytes = rw (t, buffer_of) at w.buffer;
            })
        go false t = let other : r ≡ Ok (length table) = rw (t, placed_of) at w.answer in different (cc)

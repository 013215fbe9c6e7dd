-- A case of the programs and what the meanings print for it, with all that it takes to compute: whoever unfolds
-- `printing` can close an equation between bytes by `refl`.
use Prim.Native.Nat.{ℕ, suc}
use Rattle.logic.specs.Tests.{any}
use Rattle.machine.specs.Monitor.{threads, turn_at, turn, on_guard, waits_on, line, all_idle}
use Rattle.machine.specs.Queue.{those, joined as joined_behind, left as left_out, place_in as turn_in}
use Rattle.machine.specs.Decide.Step.{put, without, is_due, is_waiting, begin_wait, leave, at_front, first_in, next}
use Rattle.machine.specs.Decide.Step.{first_notified, own, plain_told, may_be_at, may, ran, waited, rechecked, allowed, act}
use Rattle.machine.specs.Decide.Step.{judged, step, run}
use Rattle.machine.specs.Decide.Table.{runs, some_move, every_move, stands, unconditional, broadcast, entry_of, acts}
use Rattle.machine.specs.Decide.Table.{entry_told, table_told}
use Rattle.meaning.specs.Decide.Calls.{written, place, told_by, running_of, run_list, run_frames, run_from, running}
use Rattle.meaning.specs.Calls.{record_of, plain_machine, table_machine, Running, ran as ran_to, refused_file, not_run}
use Rattle.meaning.specs.Bits.{each_from, bits, ones}
use Rattle.meaning.specs.Accepted.{opens, closes}
use Rattle.meaning.specs.Runs.{regions_of}
use Rattle.meaning.specs.Decide.Check.{tally, crowded, place_of, left_of, past_limit, member, misnamed, places_of}
use Rattle.meaning.specs.Decide.Check.{in_byte, good_range, ill_ranged, asks, low_divisor, unvalued, kept_after, breaks}
use Rattle.meaning.specs.Decide.First.{first_from, first_where}
use Rattle.meaning.specs.Decide.Choice.{no_try, ends_false, is_none, in_set, try_at, each_try, all_hold, binds}
use Rattle.meaning.specs.Decide.Choice.{breaks_try, first_break, pass, passes, true_at_start, chosen_tries, chosen_bits}
use Rattle.meaning.specs.Decide.Choice.{fate_from, fate_of}
use Rattle.meaning.specs.Decide.Check.{broken, check_meaning, check_tokens, check}
use Rattle.meaning.specs.Lines.{hex4, refusal_line, place_byte, value_digits, place_digits, record_line, run_line}
use Rattle.meaning.specs.Lines.{machine_line, placer, runner}
use Rattle.meaning.specs.Answer.{answer, accepted, refused}
use Rattle.meaning.specs.Choice.{Fate, chosen, false_at_start, broken as broken_by}
use Rattle.meaning.specs.Model.{same_lexeme, same_lexemes, same_guard, place_in, guards_of, begins_in, goes_on_in}
use Rattle.meaning.specs.Model.{no_guard, no_region, number_after, regions, guards, region, guard_of, holds, kept}
use Rattle.meaning.specs.Model.{after, follows, vars, model}
use Rattle.meaning.specs.Hex.{hex_digit, hex2, hex_bool}
use Rattle.meaning.specs.Decide.Table.{entry_line, for_each, table_of}
use Rattle.meaning.specs.State.{size, count, state_at, number_of, starts, lowest, start_number}
use Rattle.meaning.specs.SixteenBits.{wrapped, weight_in, share, number_in, rest_in, value_in}
use Rattle.meaning.specs.Kept.{kept_at}
use Rattle.meaning.specs.Decide.Frames.{lines_from, is_hex, hex_value, all_hex, pair_at, is_frame, frame_of, prepend}
use Rattle.meaning.specs.Decide.Frames.{frames_from, frames_of}
use Rattle.meaning.specs.Value.{int_of, negative, less, compares, value_of, in_range, atom_value, joined}
use Rattle.meaning.specs.Decide.Bodies.{assigned}
use Rattle.meaning.specs.Value.{remainder_by, modulo, of_one, of_both, term_value, terms_value, expr_value, cond_value}
use Rattle.meaning.specs.Value.{conj_value, simple_value, is_true, truth}
use Rattle.meaning.specs.Decide.Bodies.{and_then, run_block, run_stmt}
use Rattle.meaning.specs.Decide.Bodies.{outcome}
use Rattle.syntax.specs.Bytes.{bytes, between, blank, letter, digit, word_byte, decimal, same_bytes}
use Rattle.syntax.specs.Decide.Leading.{leading, starts_with}
use Rattle.syntax.specs.Decide.Reading.{onwards, ◌>>=◌, give, begins, rest, choose, expect, read_name, read_number}
use Rattle.syntax.specs.Decide.Reading.{read_many, read_some, read_int, read_atom, read_sign, read_term, read_signed}
use Rattle.syntax.specs.Decide.Reading.{is_sign, read_expr}
use Rattle.syntax.specs.Decide.Reading.{read_comparison, read_cond, read_conj, read_simple, read_block, read_stmt, read_region}
use Rattle.syntax.specs.Decide.Reading.{read_method, read_var, read_try, at_end, read_monitor, read, got, stuck}
use Rattle.syntax.specs.Token.{keywords, marks, lexemes}
use Rattle.syntax.specs.Decide.Lexeme.{mark_number, keyword_number, is_mark, is_key, is_name}
use Rattle.syntax.specs.Decide.Scan.{word_of, at_most, mark_of, scan, prepend as token_prepend, tokens_from, tokenize}
use Rattle.syntax.specs.Decide.Scan.{tokens, none_at}
use Rattle.syntax.specs.Tree.{spell_int, spell_atom, sign_mark, spell_term, spell_signed, each, spell_expr}
use Rattle.syntax.specs.Tree.{comparison_mark, spell_constant}
use Rattle.syntax.specs.Tree.{spell_cond, spell_conj, spell_simple, spell_block, spell_stmt, spell_region, spell_method}
use Rattle.syntax.specs.Tree.{spell_var, spell_try, spell, InGrammar, Viable, Var, all}
use Rattle.meaning.specs.Points.{value_bytes, place_bytes, turn_bytes, set_bytes, shared_bytes, notice_bytes, notices_at}
use Rattle.meaning.specs.Points.{plain_part, table_part, turn_part, point_at, stop_answer, point_count, list_points, frame_points, points_from}
use Rattle.meaning.specs.Decide.Touch.{atom_names, term_names, terms_name, expr_names, cond_names, conj_names, simple_names}
use Rattle.meaning.specs.Decide.Touch.{block_assigns, stmt_assigns, any_var, sum_of, touched, pairs_of}
use Rattle.meaning.specs.Points.{point_room, points_of}
use Rattle.machine.specs.Load.{drawn, upper}
use Rattle.machine.specs.Decide.Load.{join_each, is_moved, is_recheck, frame_if, is_allowed, allowed_at, allowed_of, allowed_frames}
use Rattle.machine.specs.Decide.Load.{behind, load_from}
use Rattle.meaning.specs.Trace.{frame_line, lines_of}
use Rattle.meaning.specs.Load.{made_of}
use Rattle.meaning.specs.Decide.Load.{load_frames, made_in, bad_count, load_of}
use lib.IntN.{ℤ, pos, ◌+ℤ◌, nat_abs}
use lib.ListN.{length, replicate, get_or}
use mathlib.Core.List.{List, [], ◌∷◌, ◌++◌, map}

-- What is run: `placer` on a file, `runner` on a file and a trace, one behind the other, both machines' turns at the end of
-- a trace, its points from a state in a buffer of so many bytes, the choice among a file's tries, how many of its pairs
-- are touched, or some of its states by their numbers
pub data Case : Type 0 where
  placing : List ℕ → Case
  running_case : List ℕ → List ℕ → Case
  whole turns_of : List ℕ → List ℕ → Case
  points_case : List ℕ → List ℕ → ℕ → ℕ → Case
  tries_case pairs_case : List ℕ → Case
  numbers_of : List ℕ → List ℕ → Case

-- the sixteen turns at the end of a run in two digits each, or the refusal's line
unfoldable pub turn_digits : List ℕ → List ℕ
turn_digits [] = []
turn_digits (n ∷ ns) = hex2 n ++ turn_digits ns

unfoldable pub turns_line : Running → List ℕ
turns_line (ran_to r) = turn_digits r.turns ++ (10 ∷ [])
turns_line (refused_file a) = refusal_line a
turns_line (not_run a) = refusal_line a

-- both machines' from the start values
unfoldable pub turns_lines : List ℕ → List ℕ → List ℕ
turns_lines file trace =
    elim (check file) [
      | accepted m ↦ turns_line (run_from m plain_machine (start_number (vars m)) trace)
          ++ turns_line (run_from m table_machine (start_number (vars m)) trace)
      | refused a ↦ refusal_line a
    ]

-- what becomes of a try, and of all tries of an accepted file behind the chosen bits and their count, in lines of ten digits
unfoldable pub fate_line : Fate → List ℕ
fate_line chosen = refusal_line (answer 0 0 0)
fate_line false_at_start = refusal_line (answer 255 0 0)
fate_line (broken_by p k n) = refusal_line (answer p k n)

unfoldable pub tries_lines : List ℕ → List ℕ
tries_lines file =
    elim (check file) [
      | accepted m ↦ refusal_line (answer 0 (chosen_bits m) (length m.tries))
          ++ for_each (length m.tries) 0 (λ i. fate_line (fate_of m i))
      | refused a ↦ refusal_line a
    ]

-- the touched pairs and the table's length in a line of ten digits; both are 0 of a refused file
unfoldable pub pairs_line : List ℕ → List ℕ
pairs_line file = let p = place file (replicate 512 0) in refusal_line (answer 0 p.pairs p.length)

-- a state's number in four digits and its values in two each
unfoldable pub state_line : ℕ → List ℕ → List ℕ
state_line n values = hex4 n ++ (values ++ (10 ∷ []))

unfoldable pub held_as : ℤ → ℕ
held_as a = nat_abs (a +ℤ pos 128)

-- the states with some numbers, each as document 01 counts it, there and back, and as it is held in sixteen bits
unfoldable pub state_lines : List Var → List ℕ → List ℕ
state_lines vs [] = []
state_lines vs (n ∷ ns) =
    let k = length vs in
    let lows = map (λ v. held_as (int_of v.low)) vs in
    let highs = map (λ v. held_as (int_of v.high)) vs in
    let weights = for_each k 0 (λ i. weight_in lows highs (count vs) (suc i) ∷ []) in
    let values = for_each k 0 (λ i. value_in wrapped lows weights n i ∷ []) in
    let digits = for_each k 0 (λ i. hex2 (get_or values i 0)) in
    state_line (number_of vs (state_at vs n)) (value_digits (state_at vs n))
    ++ (state_line (number_in wrapped lows weights values k) digits ++ state_lines vs ns)

unfoldable pub numbers_lines : List ℕ → List ℕ → List ℕ
numbers_lines file ns =
    elim (tokenize file) [
      | none_at k ↦ []
      | tokens ts ↦ elim (read (lexemes ts)) [ stuck ls ↦ [] | got m ls ↦ state_lines (all m.vars) ns ]
    ]

unfoldable pub printing : Case → List ℕ
unfolding any threads put without is_due is_waiting turn_at turn those joined_behind left_out turn_in begin_wait leave all_idle on_guard waits_on line at_front first_in next first_notified own plain_told may_be_at may ran waited rechecked allowed act judged step run runs some_move every_move stands unconditional broadcast entry_of acts entry_told table_told written place told_by each_from bits ones record_of running_of run_list run_frames run_from running opens closes tally crowded place_of left_of past_limit member misnamed places_of in_byte good_range ill_ranged asks low_divisor unvalued regions_of kept_after breaks first_from first_where broken no_try ends_false is_none in_set try_at each_try all_hold binds breaks_try first_break pass passes true_at_start chosen_tries chosen_bits fate_from fate_of fate_line tries_lines turn_digits turns_line turns_lines atom_names term_names terms_name expr_names cond_names conj_names simple_names block_assigns stmt_assigns any_var sum_of touched pairs_of pairs_line wrapped weight_in share number_in rest_in value_in state_line held_as state_lines numbers_lines check_meaning check_tokens check hex4 refusal_line place_byte value_digits place_digits record_line run_line machine_line placer runner value_bytes place_bytes turn_bytes set_bytes shared_bytes notice_bytes notices_at plain_part table_part turn_part point_at stop_answer point_count list_points frame_points points_from point_room points_of drawn upper join_each is_moved is_recheck frame_if is_allowed allowed_at allowed_of allowed_frames behind load_from frame_line lines_of made_of load_frames made_in bad_count load_of same_lexeme same_lexemes same_guard place_in guards_of begins_in goes_on_in no_guard no_region number_after regions guards region guard_of holds kept after follows model hex_digit hex2 hex_bool entry_line for_each table_of size count state_at number_of starts lowest lines_from is_hex hex_value all_hex pair_at is_frame frame_of prepend frames_from frames_of int_of negative less compares value_of in_range assigned atom_value joined terms_value expr_value remainder_by modulo of_one of_both term_value cond_value conj_value simple_value is_true truth and_then run_block run_stmt outcome kept_at bytes between blank letter digit word_byte leading decimal same_bytes starts_with onwards ◌>>=◌ give begins rest choose expect read_name read_number read_many read_some read_int read_atom read_sign read_term read_signed is_sign read_expr read_comparison read_cond read_conj read_simple read_block read_stmt read_region read_method read_var read_try at_end read_monitor read keywords marks word_of at_most mark_of scan token_prepend tokens_from tokenize lexemes mark_number keyword_number is_mark is_key is_name spell_int spell_atom sign_mark spell_term spell_signed each spell_expr comparison_mark spell_constant spell_cond spell_conj spell_simple spell_block spell_stmt spell_region spell_method spell_var spell_try spell InGrammar Viable
printing (placing file) = placer file
printing (running_case file trace) = runner file trace
printing (whole file trace) = placer file ++ runner file trace
printing (turns_of file trace) = turns_lines file trace
printing (points_case file trace s room) =
    let p = points_of file trace s (replicate room 165) in
    refusal_line p.plain ++ (refusal_line p.table ++ (p.count ∷ p.buffer))
printing (tries_case file) = tries_lines file
printing (pairs_case file) = pairs_line file
printing (numbers_of file states) = numbers_lines file states

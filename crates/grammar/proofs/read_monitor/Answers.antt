-- `grammar::read_monitor` meets its contract.
use Rattle.grammar.proofs.Readers.{then, halts, stops_file, ends}
use Rattle.grammar.proofs.KindTests.{took_mark, took_key, took_name}
use Rattle.syntax.specs.Decide.Reading.{read_some, read_monitor}
use Rattle.syntax.specs.Token.{lbrace, rbrace, semicolon, k_monitor, k_keep}
use Rattle.syntax.specs.Decide.Lexeme.{mark_number, keyword_number}
use Rattle.syntax.specs.Held.Kind.{kind_of}
use Rattle.grammar.proofs.read_monitor.Goals as goal

pub returns-in_err-word : goal.returns-in_err-word
unfolding read_monitor read_some kind_of mark_number keyword_number
returns-in_err-word c =
    stops_file _ _ (took_key k_monitor c.in_err-word.ensures) c.from_residual.ensures

pub returns-in_err-name : goal.returns-in_err-name
unfolding read_monitor read_some kind_of mark_number keyword_number
returns-in_err-name c =
    then (took_key k_monitor c.in_ok-word.ensures) λ _.
    stops_file _ _ (took_name c.in_err-name.ensures) c.from_residual-in_err-name.ensures

pub returns-in_err-begin : goal.returns-in_err-begin
unfolding read_monitor read_some kind_of mark_number keyword_number
returns-in_err-begin c =
    then (took_key k_monitor c.in_ok-word.ensures) λ _.
    then (took_name c.in_ok-name.ensures) λ _.
    stops_file _ _ (took_mark lbrace c.in_err-begin.ensures) c.from_residual-in_err-begin.ensures

pub returns-in_err-var : goal.returns-in_err-var
unfolding read_monitor read_some kind_of mark_number keyword_number
returns-in_err-var c =
    then (took_key k_monitor c.in_ok-word.ensures) λ _.
    then (took_name c.in_ok-name.ensures) λ _.
    then (took_mark lbrace c.in_ok-begin.ensures) λ _.
    stops_file _ _ (halts _ c.in_err-var.ensures) c.from_residual-in_err-var.ensures

pub returns-in_err-vars : goal.returns-in_err-vars
unfolding read_monitor read_some kind_of mark_number keyword_number
returns-in_err-vars c =
    then (took_key k_monitor c.in_ok-word.ensures) λ _.
    then (took_name c.in_ok-name.ensures) λ _.
    then (took_mark lbrace c.in_ok-begin.ensures) λ _.
    stops_file _ _ (then c.in_ok-var.ensures λ _. ends _ c.in_err-vars.ensures)
    c.from_residual-in_err-vars.ensures

pub returns-in_err-keep : goal.returns-in_err-keep
unfolding read_monitor read_some kind_of mark_number keyword_number
returns-in_err-keep c =
    then (took_key k_monitor c.in_ok-word.ensures) λ _.
    then (took_name c.in_ok-name.ensures) λ _.
    then (took_mark lbrace c.in_ok-begin.ensures) λ _.
    then (then c.in_ok-var.ensures λ _. ends _ c.in_ok-vars.ensures) λ _.
    stops_file _ _ (took_key k_keep c.in_err-keep.ensures) c.from_residual-in_err-keep.ensures

pub returns-in_err-cond : goal.returns-in_err-cond
unfolding read_monitor read_some kind_of mark_number keyword_number
returns-in_err-cond c =
    then (took_key k_monitor c.in_ok-word.ensures) λ _.
    then (took_name c.in_ok-name.ensures) λ _.
    then (took_mark lbrace c.in_ok-begin.ensures) λ _.
    then (then c.in_ok-var.ensures λ _. ends _ c.in_ok-vars.ensures) λ _.
    then (took_key k_keep c.in_ok-keep.ensures) λ _.
    stops_file _ _ c.in_err-cond.ensures c.from_residual-in_err-cond.ensures

pub returns-in_err-kept : goal.returns-in_err-kept
unfolding read_monitor read_some kind_of mark_number keyword_number
returns-in_err-kept c =
    then (took_key k_monitor c.in_ok-word.ensures) λ _.
    then (took_name c.in_ok-name.ensures) λ _.
    then (took_mark lbrace c.in_ok-begin.ensures) λ _.
    then (then c.in_ok-var.ensures λ _. ends _ c.in_ok-vars.ensures) λ _.
    then (took_key k_keep c.in_ok-keep.ensures) λ _.
    then c.in_ok-cond.ensures λ _.
    stops_file _ _ (took_mark semicolon c.in_err-kept.ensures) c.from_residual-in_err-kept.ensures

pub returns-in_err-tries : goal.returns-in_err-tries
unfolding read_monitor read_some kind_of mark_number keyword_number
returns-in_err-tries c =
    then (took_key k_monitor c.in_ok-word.ensures) λ _.
    then (took_name c.in_ok-name.ensures) λ _.
    then (took_mark lbrace c.in_ok-begin.ensures) λ _.
    then (then c.in_ok-var.ensures λ _. ends _ c.in_ok-vars.ensures) λ _.
    then (took_key k_keep c.in_ok-keep.ensures) λ _.
    then c.in_ok-cond.ensures λ _.
    then (took_mark semicolon c.in_ok-kept.ensures) λ _.
    stops_file _ _ c.in_err-tries.ensures c.from_residual-in_err-tries.ensures

pub returns-in_err-method : goal.returns-in_err-method
unfolding read_monitor read_some kind_of mark_number keyword_number
returns-in_err-method c =
    then (took_key k_monitor c.in_ok-word.ensures) λ _.
    then (took_name c.in_ok-name.ensures) λ _.
    then (took_mark lbrace c.in_ok-begin.ensures) λ _.
    then (then c.in_ok-var.ensures λ _. ends _ c.in_ok-vars.ensures) λ _.
    then (took_key k_keep c.in_ok-keep.ensures) λ _.
    then c.in_ok-cond.ensures λ _.
    then (took_mark semicolon c.in_ok-kept.ensures) λ _.
    then c.in_ok-tries.ensures λ _.
    stops_file _ _ (halts _ c.in_err-method.ensures) c.from_residual-in_err-method.ensures

pub returns-in_err-methods : goal.returns-in_err-methods
unfolding read_monitor read_some kind_of mark_number keyword_number
returns-in_err-methods c =
    then (took_key k_monitor c.in_ok-word.ensures) λ _.
    then (took_name c.in_ok-name.ensures) λ _.
    then (took_mark lbrace c.in_ok-begin.ensures) λ _.
    then (then c.in_ok-var.ensures λ _. ends _ c.in_ok-vars.ensures) λ _.
    then (took_key k_keep c.in_ok-keep.ensures) λ _.
    then c.in_ok-cond.ensures λ _.
    then (took_mark semicolon c.in_ok-kept.ensures) λ _.
    then c.in_ok-tries.ensures λ _.
    stops_file _ _ (then c.in_ok-method.ensures λ _. ends _ c.in_err-methods.ensures)
    c.from_residual-in_err-methods.ensures

pub returns-in_err-end : goal.returns-in_err-end
unfolding read_monitor read_some kind_of mark_number keyword_number
returns-in_err-end c =
    then (took_key k_monitor c.in_ok-word.ensures) λ _.
    then (took_name c.in_ok-name.ensures) λ _.
    then (took_mark lbrace c.in_ok-begin.ensures) λ _.
    then (then c.in_ok-var.ensures λ _. ends _ c.in_ok-vars.ensures) λ _.
    then (took_key k_keep c.in_ok-keep.ensures) λ _.
    then c.in_ok-cond.ensures λ _.
    then (took_mark semicolon c.in_ok-kept.ensures) λ _.
    then c.in_ok-tries.ensures λ _.
    then (then c.in_ok-method.ensures λ _. ends _ c.in_ok-methods.ensures) λ _.
    stops_file _ _ (took_mark rbrace c.in_err-end.ensures) c.from_residual-in_err-end.ensures

pub returns : goal.returns
unfolding read_monitor read_some kind_of mark_number keyword_number
returns c =
    then (took_key k_monitor c.in_ok-word.ensures) λ _.
    then (took_name c.in_ok-name.ensures) λ _.
    then (took_mark lbrace c.in_ok-begin.ensures) λ _.
    then (then c.in_ok-var.ensures λ _. ends _ c.in_ok-vars.ensures) λ _.
    then (took_key k_keep c.in_ok-keep.ensures) λ _.
    then c.in_ok-cond.ensures λ _.
    then (took_mark semicolon c.in_ok-kept.ensures) λ _.
    then c.in_ok-tries.ensures λ _.
    then (then c.in_ok-method.ensures λ _. ends _ c.in_ok-methods.ensures) λ _.
    then (took_mark rbrace c.in_ok-end.ensures) λ _.
    ends _ c.at_end.ensures

use Rattle.std.proofs.Common.{◌+◌, ◌-◌, ap, length, take, drop, eqb, arith, rules, tests, length-drop}
use Rattle.std.proofs.lemmas.List.{take_rest}
use Rattle.std.proofs.lemmas.Iterator.{YieldsList-from_slice}
use Rattle.std.proofs.lemmas.Iterator.Search.{position_from_yields_List}
use Rattle.lines.proofs.Words.{found, missed}
use Rattle.lines.proofs.word.end_of.Goals as goal

pub returns-in-Some-clause-value : goal.returns-in-Some-clause-value
returns-in-Some-clause-value c =
    let row = c.args.bytes.now in
    let rest = take (length row - c.args.from) (drop c.args.from row) in
    let told = position_from_yields_List (λ b. eqb b c.args.stop) _ _ _ c.position.ensures.ran (YieldsList-from_slice rest c.iter.ensures.rest) (λ x b q k. search (rules, tests)) in
    ap (λ k. c.args.from + k) (found c.args.stop (drop c.args.from row) (rw take_rest at told) _ c.in-Some.is)

pub returns-in-None-clause-value : goal.returns-in-None-clause-value
returns-in-None-clause-value c =
    let row = c.args.bytes.now in
    let rest = take (length row - c.args.from) (drop c.args.from row) in
    let told = position_from_yields_List (λ b. eqb b c.args.stop) _ _ _ c.position.ensures.ran (YieldsList-from_slice rest c.iter.ensures.rest) (λ x b q k. search (rules, tests)) in
    let none = missed c.args.stop (drop c.args.from row) (rw take_rest at told) c.in-None.is in
    omega (arith, length-drop c.args.from row)

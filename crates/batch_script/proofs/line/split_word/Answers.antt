use Rattle.std.proofs.Common.{◌≡◌, ◌+◌, drop, get_or, sym, ap, ◌∙◌, arith, length-drop}
use Rattle.std.proofs.lemmas.List.{take_rest, take-append-drop, get_or-drop}
use Rattle.batch_script.proofs.CutFacts.{none_before, stops_here}
use Rattle.batch_script.proofs.line.split_word.Goals as goal

pub returns : goal.returns
returns c =
    let l = c.loop-end in
    let text = c.args.text.now in
    let e : l.end + 0 ≡ l.end = omega arith in
    let first : get_or (drop l.end text) 0 0 ≡ get_or text l.end 0 = get_or-drop l.end text 0 0 ∙ ap (λ i. get_or text i 0) e in
    rw (take_rest text l.end) (record {
      same = sym (take-append-drop l.end text);
      no_space = none_before 32 text l.end l.invariant.no_space;
      no_feed = none_before 10 text l.end l.invariant.no_feed;
      stops = λ some. rw first (stops_here (get_or text l.end 0) (λ other nor.
          let goes_on = c.is_in_word.ensures.1 (omega (arith, length-drop l.end text), other, nor) in absurd (cc)));
    })

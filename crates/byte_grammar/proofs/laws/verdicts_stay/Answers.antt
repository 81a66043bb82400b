use Rattle.byte_grammar.proofs.Judging.{settled_more, judge_cut, more_short, done_alone}
use Rattle.byte_grammar.proofs.laws.verdicts_stay.Goals as goal

pub returns : goal.returns
returns c = record {
  settled = settled_more;
  cut = judge_cut;
  more = more_short;
  alone = done_alone;
}

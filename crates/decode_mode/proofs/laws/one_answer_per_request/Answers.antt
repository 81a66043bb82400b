use Rattle.std.proofs.Common.{length, refl, sym, ap, ◌∙◌}
use Rattle.out_update.specs.Spelling.{spells}
use Rattle.out_update.specs.Text.{decoded_text}
use Rattle.out_update.specs.Decoding.{judge_request}
use Rattle.decode_mode.proofs.Fronts.{fronts_alike}
use Rattle.decode_mode.proofs.Verdicts.{done_is, refused_alike, never_done, some_answer}
use Rattle.decode_mode.proofs.laws.one_answer_per_request.Goals as goal

pub returns : goal.returns
returns c =
    let laws = c.verdicts_are_of_spelled_requests.ensures in
    record {
      some = λ bytes h. some_answer spells decoded_text judge_request bytes (judge_request bytes) refl (λ k e. laws.done bytes k h e);
      shown_alike = λ bytes a b x y.
          let left = ap judge_request x.parts ∙ laws.spelled x.value x.front x.rest x.spelled in
          let right = ap judge_request y.parts ∙ laws.spelled y.value y.front y.rest y.spelled in
          fronts_alike spells decoded_text c.one_spelling_per_request.ensures.one_value bytes a b x y (done_is (length x.front) (length y.front) (sym left ∙ right));
      refused_alike = λ bytes a b x y. refused_alike (judge_request bytes) (length bytes) a b x y;
      never_both = λ bytes a b x y. never_done (judge_request bytes) (length x.front) (length bytes) b (ap judge_request x.parts ∙ laws.spelled x.value x.front x.rest x.spelled) y;
    }

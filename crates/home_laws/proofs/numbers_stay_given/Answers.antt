use Rattle.home_laws.proofs.Given.{gives_more, none_given, same_messages}
use Rattle.home_laws.proofs.numbers_stay_given.Goals as goal

pub returns : goal.returns
returns call = record {
  turn = λ c numbered to inside up u gives. gives_more c numbered to inside up u gives;
  messages = λ c d numbered same back. same_messages c d numbered same back;
  epoch = λ c old. none_given c old;
}

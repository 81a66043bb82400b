use Rattle.home_laws.proofs.Given.{gives_more}
use Rattle.home_laws.proofs.Orders.{commits_give, stops_give}
use Rattle.home_laws.proofs.Takes.{away_numbers, bounce_numbers, turn_numbers}
use Rattle.home_laws.proofs.a_turn_gives_numbers_in_order.Goals as goal

pub returns : goal.returns
returns call = record {
  message = λ targets c w g numbered to inside up k m kept here x f. turn_numbers c numbered to inside up (g.keeps to up).index (g.keeps to up).home.at_home f k m kept here x;
  bounce = λ targets c w g numbered to inside up m kept here ask is f. bounce_numbers c numbered to inside up (g.keeps to up).index (g.keeps to up).home.at_home f 0 m kept here ask is;
  away = λ c numbered to inside ls. away_numbers c numbered to inside ls;
  commit = λ c numbered to inside up f. gives_more c numbered to inside up _ (commits_give c to numbered up f);
  stop = λ c numbered to inside up f. gives_more c numbered to inside up _ (stops_give c to numbered up f);
}

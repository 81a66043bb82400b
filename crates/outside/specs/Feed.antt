-- What a text in memory is to its reader, what a sink in memory holds, and what a stream goes over.
use Rattle.std.specs.Prelude.{ℕ, List, refl}
use Rattle.std.specs.Coded.{Coded, code_by, coded×, coded_ℕ}

pub record Feed : Type 0 where
  pub left : List ℕ
  pub failing : List ℕ
  pub calls : ℕ
  pub faults : ℕ

pub record Held : Type 0 where
  pub bytes : List ℕ
  pub failing : List ℕ
  pub calls : ℕ
  pub faults : ℕ
  pub refused : ℕ

-- a reader or a writer, and how many of its calls failed
pub record Stream (X : Type 0) : Type 0 where
  pub inner : X
  pub faults : ℕ

abbrev pub stream_code : {X : Type 0} → Coded X → Coded (Stream X)
stream_code {X} inner =
    code_by (X × ℕ) (coded× inner coded_ℕ) (λ s. (s.inner, s.faults)) (λ p. record { inner = p.0; faults = p.1 }) (λ _. refl)

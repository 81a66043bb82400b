-- What a call says where it answers Ok is handed on.
use Rattle.std.proofs.Common.{Result, Ok, Err, IfOk, OnOk}

pub if_ok : {T E : Type 0} (P Q : T → Type 0) (r : Result T E) → ((x : T) → P x → Q x) → IfOk r P → IfOk r Q
if_ok P Q (Ok x) on h = on x h
if_ok P Q (Err e) on h = h

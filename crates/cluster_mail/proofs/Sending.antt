-- What is sent has a spelling.
use Rattle.std.proofs.Common.{◌≡◌, ℕ, ◌+◌, ◌≤◌, ◌<◌, ◌^◌, Bool, true, false, ◌==◌, nat_le, ◌&&◌, ◌||◌, List, [], ◌++◌, length, refl, sym, ap, subst, ◌∙◌, arith, length-append, w32, w64}
use Rattle.std.proofs.lemmas.Bool.{le-leb}
use Rattle.byte_grammar.specs.Numbers.{word}
use Rattle.out_update.specs.declared.update.Update.{Update}
use Rattle.out_update.specs.Replies.{reply_text}
use Rattle.out_update.specs.Spelling.{FitsRequest}
use Rattle.update_record.specs.declared.message.Attempt.{Attempt}
use Rattle.update_record.specs.declared.message.Facts.{Facts}
use Rattle.update_record.specs.declared.message.Message.{Message}
use Rattle.update_record.specs.declared.message.MessageKind.{MessageKind}
use Rattle.update_record.specs.declared.message.MessageKind.TheVariants as kind
use Rattle.update_record.specs.declared.operation.Record.{Record}
use Rattle.update_record.specs.Spelling.{FitsRecord}
use Rattle.update_record.specs.Messages.{AsksOne, or_zero, has_ask, is_sender, writer_number, writer_targets, facts_text, FitsFacts, FitsBody, FitsMessage}
use Rattle.cluster_mail.specs.Answering.{ComesAs, held_message, busy_message, synced_message, executed_message, released_message, stable_message, cancel_message}
use Rattle.cluster_mail.specs.Asking.{hold_message, sync_message, execute_message, release_message}

is_target : (n : ℕ) → n ≤ 15 → is_sender n ≡ true
is_target n h = ap (λ (b : Bool). b || (nat_le 256 n && nat_le n 319)) (le-leb n 15 h)

-- a message of a kind that is no ask has none
no_ask : (k : MessageKind) (m : Message) → m.kind ≡ k → FitsMessage m → or_zero (has_ask k) m.ask ≡ true
no_ask k m is h = subst (λ (q : MessageKind). or_zero (has_ask q) m.ask ≡ true) is h.ask_fits

length-word32 : (n : ℕ) → length (word w32 n) ≡ 4
unfolding word
length-word32 n = refl

length-word64 : (n : ℕ) → length (word w64 n) ≡ 8
unfolding word
length-word64 n = refl

length-facts : (f : Facts) → length (facts_text f) ≡ 24 + length (reply_text f.reply)
length-facts f =
    omega (
      arith,
      length-append (word w64 f.load) (word w64 f.clock ++ (word w32 (writer_number f.writer) ++ (word w32 (writer_targets f.writer) ++ reply_text f.reply))),
      length-append (word w64 f.clock) (word w32 (writer_number f.writer) ++ (word w32 (writer_targets f.writer) ++ reply_text f.reply)),
      length-append (word w32 (writer_number f.writer)) (word w32 (writer_targets f.writer) ++ reply_text f.reply),
      length-append (word w32 (writer_targets f.writer)) (reply_text f.reply),
      length-word64 f.load,
      length-word64 f.clock,
      length-word32 (writer_number f.writer),
      length-word32 (writer_targets f.writer),
    )

pub held_fits : (epoch from : ℕ) (m : Message) (f : Facts) → epoch < 2 ^ 32 → from ≤ 15 → ComesAs kind.Hold m → FitsFacts f → FitsMessage (held_message epoch from m f)
held_fits epoch from m f e t c h =
    let small = h.reply.size in
    record {
      epoch = e;
      epoch_fits = refl;
      sender = is_target from t;
      receiver = c.from;
      number = c.fits.number;
      number_fits = refl;
      attempt = c.fits.attempt;
      attempt_fits = refl;
      ask = c.fits.ask;
      ask_fits = refl;
      value = omega arith;
      value_fits = refl;
      size = omega (arith, length-facts f);
      body = (f, (h, refl));
    }

pub busy_fits : (epoch from : ℕ) (m : Message) (holder : ℕ) → epoch < 2 ^ 32 → from ≤ 15 → ComesAs kind.Hold m → holder < 2 ^ 32 → FitsMessage (busy_message epoch from m holder)
busy_fits epoch from m holder e t c h =
    record {
      epoch = e;
      epoch_fits = refl;
      sender = is_target from t;
      receiver = c.from;
      number = c.fits.number;
      number_fits = refl;
      attempt = c.fits.attempt;
      attempt_fits = refl;
      ask = c.fits.ask;
      ask_fits = refl;
      value = omega arith;
      value_fits = refl;
      size = omega arith;
      body = refl;
    }

pub synced_fits : (epoch from : ℕ) (m : Message) → epoch < 2 ^ 32 → from ≤ 15 → ComesAs kind.Sync m → FitsMessage (synced_message epoch from m)
synced_fits epoch from m e t c =
    record {
      epoch = e;
      epoch_fits = refl;
      sender = is_target from t;
      receiver = c.from;
      number = c.fits.number;
      number_fits = refl;
      attempt = c.fits.attempt;
      attempt_fits = refl;
      ask = c.fits.ask;
      ask_fits = refl;
      value = omega arith;
      value_fits = refl;
      size = omega arith;
      body = refl;
    }

pub executed_fits : (epoch from : ℕ) (m : Message) → epoch < 2 ^ 32 → from ≤ 15 → ComesAs kind.Execute m → FitsMessage (executed_message epoch from m)
executed_fits epoch from m e t c =
    record {
      epoch = e;
      epoch_fits = refl;
      sender = is_target from t;
      receiver = c.from;
      number = c.fits.number;
      number_fits = refl;
      attempt = c.fits.attempt;
      attempt_fits = refl;
      ask = c.fits.ask;
      ask_fits = no_ask kind.Execute m c.is c.fits;
      value = omega arith;
      value_fits = refl;
      size = omega arith;
      body = refl;
    }

pub released_fits : (epoch from : ℕ) (m : Message) → epoch < 2 ^ 32 → from ≤ 15 → ComesAs kind.Release m → FitsMessage (released_message epoch from m)
released_fits epoch from m e t c =
    record {
      epoch = e;
      epoch_fits = refl;
      sender = is_target from t;
      receiver = c.from;
      number = c.fits.number;
      number_fits = refl;
      attempt = c.fits.attempt;
      attempt_fits = refl;
      ask = c.fits.ask;
      ask_fits = no_ask kind.Release m c.is c.fits;
      value = omega arith;
      value_fits = refl;
      size = omega arith;
      body = refl;
    }

pub stable_fits : (epoch from to batch : ℕ) → epoch < 2 ^ 32 → from ≤ 15 → to ≤ 15 → batch < 2 ^ 64 → FitsMessage (stable_message epoch from to batch)
stable_fits epoch from to batch e t o b =
    record {
      epoch = e;
      epoch_fits = refl;
      sender = is_target from t;
      receiver = o;
      number = omega arith;
      number_fits = refl;
      attempt = omega arith;
      attempt_fits = refl;
      ask = omega arith;
      ask_fits = refl;
      value = b;
      value_fits = refl;
      size = omega arith;
      body = refl;
    }

pub cancel_fits : (epoch from to mark : ℕ) → epoch < 2 ^ 32 → from ≤ 15 → to ≤ 15 → mark < 2 ^ 64 → FitsMessage (cancel_message epoch from to mark)
cancel_fits epoch from to mark e t o b =
    record {
      epoch = e;
      epoch_fits = refl;
      sender = is_target from t;
      receiver = o;
      number = omega arith;
      number_fits = refl;
      attempt = omega arith;
      attempt_fits = refl;
      ask = omega arith;
      ask_fits = refl;
      value = b;
      value_fits = refl;
      size = omega arith;
      body = refl;
    }

-- ---- of an attempt's home

pub hold_fits : (by : Attempt) (to ask : ℕ) (us : List Update) → by.epoch < 2 ^ 32 → by.attempt < 2 ^ 64 → by.number < 2 ^ 32 → by.master ≤ 15 → to ≤ 15 → ask < 2 ^ 32 → FitsRequest us → AsksOne us → FitsMessage (hold_message by to ask us)
hold_fits by to ask us e p n t o a h q =
    let small = h.size in
    record {
      epoch = e;
      epoch_fits = refl;
      sender = is_target by.master t;
      receiver = o;
      number = n;
      number_fits = refl;
      attempt = p;
      attempt_fits = refl;
      ask = a;
      ask_fits = refl;
      value = omega arith;
      value_fits = refl;
      size = omega arith;
      body = (us, ((h, q), refl));
    }

pub sync_fits : (by : Attempt) (to ask writer : ℕ) → by.epoch < 2 ^ 32 → by.attempt < 2 ^ 64 → by.number < 2 ^ 32 → by.master ≤ 15 → to ≤ 15 → ask < 2 ^ 32 → writer < 2 ^ 32 → FitsMessage (sync_message by to ask writer)
sync_fits by to ask writer e p n t o a w =
    record {
      epoch = e;
      epoch_fits = refl;
      sender = is_target by.master t;
      receiver = o;
      number = n;
      number_fits = refl;
      attempt = p;
      attempt_fits = refl;
      ask = a;
      ask_fits = refl;
      value = omega arith;
      value_fits = refl;
      size = omega arith;
      body = refl;
    }

pub execute_fits : (by : Attempt) (to : ℕ) (r : Record) → by.epoch < 2 ^ 32 → by.attempt < 2 ^ 64 → by.number < 2 ^ 32 → by.master ≤ 15 → to ≤ 15 → FitsRecord r → FitsMessage (execute_message by to r)
execute_fits by to r e p n t o h =
    let small = h.size in
    record {
      epoch = e;
      epoch_fits = refl;
      sender = is_target by.master t;
      receiver = o;
      number = n;
      number_fits = refl;
      attempt = p;
      attempt_fits = refl;
      ask = omega arith;
      ask_fits = refl;
      value = omega arith;
      value_fits = refl;
      size = omega arith;
      body = (r, (h, refl));
    }

pub release_fits : (by : Attempt) (to : ℕ) → by.epoch < 2 ^ 32 → by.attempt < 2 ^ 64 → by.number < 2 ^ 32 → by.master ≤ 15 → to ≤ 15 → FitsMessage (release_message by to)
release_fits by to e p n t o =
    record {
      epoch = e;
      epoch_fits = refl;
      sender = is_target by.master t;
      receiver = o;
      number = n;
      number_fits = refl;
      attempt = p;
      attempt_fits = refl;
      ask = omega arith;
      ask_fits = refl;
      value = omega arith;
      value_fits = refl;
      size = omega arith;
      body = refl;
    }

-- What a target may be handed: messages of this system, with what they say.
use Rattle.std.specs.Prelude.{◌≤◌, ℕ, Bool, true, false}
use Rattle.update_record.specs.declared.message.Message.{Message}
use Rattle.update_record.specs.declared.message.MessageKind.{MessageKind}
use Rattle.update_record.specs.declared.message.MessageKind.TheVariants as kind
use Rattle.update_record.specs.Messages.{FitsMessage}
use Rattle.update_coordinator.specs.Fitting.{IsRequest}
use Rattle.cluster_mail.specs.declared.content.Content.{Content}
use Rattle.cluster_mail.specs.declared.content.Content.TheVariants as content
use Rattle.cluster_mail.specs.Content.{Says}
use Rattle.target_turns.specs.Turn.{request_of}

-- what a client asks for comes to its home
abbrev pub ComesHome : ℕ → ℕ → Message → Content → Type 0
ComesHome targets index m (content.Asks op) = IsRequest targets index (request_of m op)
ComesHome targets index m _ = Unit {0}

-- a target of a cluster of so many, with this number, may take this message, whose body says this
pub record MayTake (targets index : ℕ) (m : Message) (c : Content) : Type 0 where
  pub here : index ≤ 15
  pub fits : FitsMessage m
  pub says : Says targets m.kind m.body c
  pub home : ComesHome targets index m c

-- a message after which a target stands, whatever its disk does
abbrev pub is_order : MessageKind → Bool
is_order kind.Request = false
is_order kind.Hold = true
is_order kind.Held = false
is_order kind.HoldBusy = false
is_order kind.Sync = false
is_order kind.Synced = false
is_order kind.Execute = true
is_order kind.Executed = true
is_order kind.Release = true
is_order kind.Released = true
is_order kind.Stable = true
is_order kind.Cancel = true

-- one of these that says nothing but its kind and its numbers
abbrev pub is_note : MessageKind → Bool
is_note kind.Request = false
is_note kind.Hold = false
is_note kind.Held = false
is_note kind.HoldBusy = false
is_note kind.Sync = false
is_note kind.Synced = false
is_note kind.Execute = false
is_note kind.Executed = true
is_note kind.Release = true
is_note kind.Released = true
is_note kind.Stable = true
is_note kind.Cancel = true

-- a message that says no more either, and after which a target may have stopped
abbrev pub is_signal : MessageKind → Bool
is_signal kind.Request = false
is_signal kind.Hold = false
is_signal kind.Held = false
is_signal kind.HoldBusy = true
is_signal kind.Sync = true
is_signal kind.Synced = true
is_signal kind.Execute = false
is_signal kind.Executed = false
is_signal kind.Release = false
is_signal kind.Released = false
is_signal kind.Stable = false
is_signal kind.Cancel = false

-- A scenario of two targets through the definitions, down to the bytes.
use Rattle.std.proofs.Common.{◌≡◌, ◌+◌, false, cond, Some, None, Option, List, [], ◌∷◌, codes, inl, inr, refl, sym, ap, ◌∙◌, arith}
use Rattle.std.specs.Fmt.{digits}
use Rattle.std.proofs.lemmas.Bool.{false≢true}
use Rattle.std.specs.Ordering.{eq_by_cmp}
use Rattle.std.specs.FinMap.{get, empty, get-empty, get-insert}
use Rattle.fid_space.specs.declared.fid.Fid.{Fid}
use Rattle.tree_model.specs.declared.node.Node.{Node}
use Rattle.tree_model.specs.declared.op.Op.{Op}
use Rattle.tree_model.specs.declared.op.Op.TheVariants as ops
use Rattle.tree_model.specs.declared.op.Request.{Request}
use Rattle.tree_model.specs.declared.reply.Reply.TheVariants as replies
use Rattle.tree_model.specs.Fids.{fid_cmp}
use Rattle.tree_model.specs.Tree.{base, root_fid, root_node}
use Rattle.tree_model.specs.Changes.{Change, PutNode, changed_all}
use Rattle.tree_model.specs.Step.{step, absent_fault, checked, changed_node, op_changes}
use Rattle.tree_model.specs.Looks.{Decide, changes, check, decided}
use Rattle.tree_model.specs.History.{Item}
use Rattle.tree_model.specs.Keys.{laid_base}
use Rattle.tree_model.specs.Participants.{home_of, with_place}
use Rattle.tree_model.specs.Striped.{on, with_changes}
use Rattle.tree_model.proofs.Maps.{fids_total}
use Rattle.scenario_text.specs.LineText.{members}
use Rattle.scenario_text.specs.declared.command.Command.TheVariants as commands
use Rattle.scenario_text.specs.declared.line.Line.TheVariants as lines
use Rattle.scenario_text.specs.Spelling.{Order}
use Rattle.scenario_text.specs.Machine.{AreNext, Group, entries_of, nothing_asked, scenario, transcript}
use Rattle.update_protocol.specs.Machine.{Accepts, Answers, Down, Entry, Line, Listed, Lists, Replies, Serving, Stable, State, names}
use Rattle.update_protocol.specs.Groups.{AreStable, IsRun, made_with}
use Rattle.update_protocol.specs.Lists.{put}
use Rattle.cluster_lines.specs.Plain.{plain_groups}
use Rattle.cluster_lines.specs.Transcripts.{IsClusterTranscript}

abbrev sets : Op
sets = ops.SetAttr root_fid 0 0 0

abbrev request : Request
request = record { number = 1; client = 0; op = sets }

abbrev item : Item
item = record { request = request; reply = replies.Ok }

node_at : (q : Fid) → get base.nodes q ≡ cond (eq_by_cmp fid_cmp q root_fid) (Some root_node) None
node_at q = get-insert fids_total empty root_fid root_node q ∙ ap (cond (eq_by_cmp fid_cmp q root_fid) (Some root_node)) (get-empty fid_cmp q)

replied : replies.Ok ≡ (step 2 base sets).1
replied = sym (ap (λ (o : Option Node). (checked (absent_fault o) base (changed_all base (op_changes base sets), replies.Ok)).1) (node_at root_fid))

changed : changes 2 base sets ≡ PutNode root_fid (record root_node { mode = 0; uid = 0; gid = 0 }) ∷ []
changed = ap (λ (o : Option Node). (decided (check (absent_fault o) (Decide replies.Ok (changed_node root_fid o (λ n. record n { mode = 0; uid = 0; gid = 0 })))) base).1) (node_at root_fid)

placed : 1 ≡ on 2 laid_base sets
placed = sym (ap (λ (cs : List Change). with_changes 2 laid_base (with_place 0 (home_of 2 sets)) cs) changed)

-- THE RUN

abbrev sent : State
sent = record (made_with 2) { sent = request ∷ [] }

abbrev entry : Entry
entry = record { item = item; on = 1; named = λ t. false }

abbrev accepted : State
accepted = record sent { since = entry ∷ []; pend = put sent.pend 0 (1 ∷ []) }

abbrev committed : State
committed = record accepted { since = names 0 (1 ∷ []) accepted.since; pend = put accepted.pend 0 []; last = put accepted.last 0 1 }

abbrev first_end : State
first_end = record committed { since = names 0 [] committed.since; pend = put committed.pend 0 []; last = put committed.last 0 (committed.last 0 + 0) }

abbrev last_end : State
last_end = record first_end { since = names 1 [] first_end.since; pend = put first_end.pend 1 []; last = put first_end.last 1 (first_end.last 1 + 0) }

abbrev records : List Listed
records = record { index = 1; epoch = 1; master = 0; batch = 1; number = 1; on = 1 } ∷ []

accepts : Accepts sent 1 replies.Ok 1 (Replies 1 replies.Ok ∷ []) accepted
accepts = record {
  comes = record { request = request; was_sent = inl refl; numbered = refl; home = 0; at_home = refl; serves = refl };
  changes = refl;
  newest = tt;
  unused = tt;
  replied = replied;
  placed = placed;
  rest = [];
  then_reply = refl;
  after = refl;
}

answers : Answers accepted 1 replies.Ok
answers = record {
  comes = record { request = request; was_sent = inl refl; numbered = refl; home = 0; at_home = refl; serves = refl };
  read = λ e. absurd (false≢true e);
  kept = λ _. (inl refl, ((λ _. omega arith), tt));
}

lists : Lists accepted 0 records
lists = record {
  distinct = ((λ e. absurd e), tt);
  rising = ((λ y e. absurd e), tt);
  each = ((entry, inl refl, refl, refl, inr (inl refl), refl, refl, refl, refl), tt);
  pending = (inl refl, tt);
  live = ((λ e f. absurd (false≢true e)), tt);
}

serving_up : Serving ≡ Down → ⊥
serving_up e = cc

abbrev ends : List Line
ends = Stable 0 [] ∷ Stable 1 [] ∷ []

all_stable : AreStable (λ t. committed.standing t ≡ Serving) 0 2 ends
all_stable = (
  omega arith,
  omega arith,
  refl,
  (λ v a b c. absurd (omega (arith, a, b))),
  (omega arith, omega arith, refl, (λ v a b c. absurd (omega (arith, a, b))), (λ u a b c. absurd (omega (arith, a, b)))),
)

abbrev groups : List Group
groups =
    record { entry = Order (commands.Cluster 2); lines = [] }
    ∷ record { entry = Order (commands.Send request); lines = [] }
    ∷ record { entry = Order commands.Settle; lines = lines.Accept 1 replies.Ok 1 ∷ lines.Reply 1 replies.Ok ∷ [] }
    ∷ record { entry = Order (commands.Log 0); lines = lines.Log 0 1 ∷ lines.LogEntry (record { index = 1; epoch = 1; master = 0; batch = 1; number = 1; on = 1 }) ∷ [] }
    ∷ record { entry = Order (commands.Commit 0); lines = lines.Stable 0 (1 ∷ []) ∷ [] }
    ∷ record { entry = Order commands.End; lines = lines.Stable 0 [] ∷ lines.Stable 1 [] ∷ lines.EndClean ∷ [] }
    ∷ []

run : IsRun (made_with 0) (plain_groups groups) last_end
run = (
  tt,
  made_with 2,
  refl,
  (
    refl,
    sent,
    refl,
    (
      inl tt,
      accepted,
      (accepted, accepts, (accepted, (answers, refl), refl)),
      (
        (records, refl),
        accepted,
        (accepted, (serving_up, lists, refl), refl),
        (
          inl (1 ∷ [], refl),
          committed,
          (committed, (refl, refl), refl),
          (
            inr ((λ t h. refl), inr (inl (ends, all_stable, refl))),
            last_end,
            (first_end, (refl, refl), (last_end, (refl, refl), (last_end, ((λ t h. refl), refl), refl))),
            refl,
          ),
        ),
      ),
    ),
  ),
)

allowed : AreNext nothing_asked (entries_of groups)
allowed = (
  ((omega arith, omega arith), refl),
  (
    ((omega arith, omega arith, omega arith, (((omega arith, omega arith, omega arith), refl), omega arith, omega arith, omega arith)), ((refl, refl), refl)),
    ((tt, (refl, refl)), (((omega arith, omega arith), (refl, refl)), (((omega arith, omega arith), (refl, refl)), ((tt, (refl, refl)), tt)))),
  ),
)

spelled : scenario (entries_of groups) ≡ codes "cluster 2\nsend 1 0 setattr [0x200000007:0x1:0x0] 0 0 0\nsettle\nlog 0\ncommit 0\nend\n"
unfolding digits
spelled = refl

written : transcript groups ≡ codes "accept 1 OK on 0\nreply 1 OK\nlog 0 live 1\nindex 1 id 1.0.1 number 1 on 0\nstable 0 1\nstable 0 -\nstable 1 -\nend clean\n"
unfolding digits members
written = refl

pub worked : IsClusterTranscript
    (codes "cluster 2\nsend 1 0 setattr [0x200000007:0x1:0x0] 0 0 0\nsettle\nlog 0\ncommit 0\nend\n")
    (codes "accept 1 OK on 0\nreply 1 OK\nlog 0 live 1\nindex 1 id 1.0.1 number 1 on 0\nstable 0 1\nstable 0 -\nstable 1 -\nend clean\n")
worked = record { groups = groups; state = last_end; allowed = allowed; shaped = (tt, (tt, (tt, (tt, (tt, (tt, tt)))))); run = run; spelled = sym spelled; written = sym written }

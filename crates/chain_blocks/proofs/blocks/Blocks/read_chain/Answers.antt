use Rattle.std.specs.Prelude.{IsTrue, ◌++◌, ◌∷◌}
use Rattle.std.proofs.Common.{◌∙◌, refl, ap, sym, subst, arith}
use Rattle.outside.specs.Disk.{part}
use Rattle.chain_blocks.specs.Chains.{block_len}
use Rattle.chain_blocks.specs.Stored.{place}
use Rattle.chain_blocks.proofs.Filling.{trail_at}
use Rattle.chain_blocks.proofs.Reading.{HasChain, has_chain, reads_none, reads_both, reading_none, reading_inside, reading_next, reading_some, reading_cut, reading_all}
use Rattle.chain_blocks.proofs.blocks.Blocks.read_chain.Goals as goal

pub loop-block-init : goal.loop-block-init
loop-block-init g c =
    let old = g.D.Disk.shown c.args.disk.now in record {
      reads = reads_none old;
      flag = λ honest. refl;
      works = λ honest lt. absurd (omega arith);
      reading = λ behind trail. reading_none c.args.self.now.links (c.args.head ∷ behind) c.args.at old.content c.args.out.now c.args.head trail;
    }

pub place_of-requires : goal.place_of-requires
place_of-requires g c =
    let w = c.requires.head in
    let links = c.args.self.now.links in
    let old = g.D.Disk.shown c.args.disk.now in
    let chain = c.args.head ∷ w.1 in
    let h : HasChain links c.args.head w.1 = has_chain c.args.self.now w.0 c.args.head w.1 w.2 w.3 in
    let r = c.loop-block.invariant.reading w.1 h.trail in
    let lt = reading_inside links chain c.args.at old.content c.args.out.now c.loop-block.block c.loop-block.out c.loop-block-test.true r in
    let here = trail_at links chain r.read c.loop-block.block lt r.rest in
    omega (arith, here.1, c.requires.within)

pub read_block-requires : goal.read_block-requires
read_block-requires g c =
    let w = c.requires.head in
    let links = c.args.self.now.links in
    let old = g.D.Disk.shown c.args.disk.now in
    let chain = c.args.head ∷ w.1 in
    let h : HasChain links c.args.head w.1 = has_chain c.args.self.now w.0 c.args.head w.1 w.2 w.3 in
    let r = c.loop-block.invariant.reading w.1 h.trail in
    let lt = reading_inside links chain c.args.at old.content c.args.out.now c.loop-block.block c.loop-block.out c.loop-block-test.true r in
    let here = trail_at links chain r.read c.loop-block.block lt r.rest in
    omega (arith, here.1, c.requires.within, c.place_of.ensures)

pub returns-in-Err-clause-bytes : goal.returns-in-Err-clause-bytes
returns-in-Err-clause-bytes g c = λ tells behind trail.
    let old = g.D.Disk.shown c.args.disk.now in
    let cut = reading_cut c.args.self.now.links (c.args.head ∷ behind) c.args.at old.content c.args.out.now c.loop-block.block c.loop-block.out (c.loop-block.invariant.reading behind trail) tells in
    (cut.0, c.in-Err.ensures.none ∙ cut.1)

pub next-block-requires : goal.next-block-requires
next-block-requires g c =
    let w = c.requires.head in
    let links = c.args.self.now.links in
    let old = g.D.Disk.shown c.args.disk.now in
    let chain = c.args.head ∷ w.1 in
    let h : HasChain links c.args.head w.1 = has_chain c.args.self.now w.0 c.args.head w.1 w.2 w.3 in
    let r = c.loop-block.invariant.reading w.1 h.trail in
    let lt = reading_inside links chain c.args.at old.content c.args.out.now c.loop-block.block c.loop-block.out c.loop-block-test.true r in
    (trail_at links chain r.read c.loop-block.block lt r.rest).1

pub loop-block-smaller : goal.loop-block-smaller
loop-block-smaller g c =
    let w = c.requires.head in
    let links = c.args.self.now.links in
    let old = g.D.Disk.shown c.args.disk.now in
    let chain = c.args.head ∷ w.1 in
    let h : HasChain links c.args.head w.1 = has_chain c.args.self.now w.0 c.args.head w.1 w.2 w.3 in
    let r = c.loop-block.invariant.reading w.1 h.trail in
    let lt = reading_inside links chain c.args.at old.content c.args.out.now c.loop-block.block c.loop-block.out c.loop-block-test.true r in
    let ok = c.in-Ok.ensures in
    omega (arith, h.short, r.len, ok.len)

pub loop-block-preserved : goal.loop-block-preserved
loop-block-preserved g c =
    let links = c.args.self.now.links in
    let old = g.D.Disk.shown c.args.disk.now in
    let mid = g.D.Disk.shown c.loop-block.disk in
    let new = g.D.Disk.shown c.read_block.new.disk in
    let ok = c.in-Ok.ensures in
    let was = c.loop-block.invariant in record {
      reads = reads_both old mid new was.reads ok.reads;
      flag = λ honest. let flags = ok.flags (subst IsTrue (sym was.reads.stays.honest) honest) in flags.1 ∙ sym flags.0 ∙ was.flag honest;
      works = λ honest lt. let flags = ok.flags (subst IsTrue (sym was.reads.stays.honest) honest) in sym (was.flag honest) ∙ flags.0;
      reading = λ behind trail.
          reading_next links (c.args.head ∷ behind) c.args.at old.content c.args.out.now c.loop-block.block c.next-block.result c.loop-block.out c.read_block.new.out c.loop-block-test.true c.next-block.ensures ok.len
          (λ tells. ok.bytes (subst IsTrue (sym was.reads.stays.tells) tells) ∙ ap (λ p. c.loop-block.out ++ part p block_len mid.content) c.place_of.ensures ∙ ap (λ l. c.loop-block.out ++ part (place c.args.at c.loop-block.block) block_len l) (was.reads.content tells))
          (was.reading behind trail);
    }

pub returns-clause-flags : goal.returns-clause-flags
returns-clause-flags g c = λ honest.
    let w = c.requires.head in
    let links = c.args.self.now.links in
    let old = g.D.Disk.shown c.args.disk.now in
    let h : HasChain links c.args.head w.1 = has_chain c.args.self.now w.0 c.args.head w.1 w.2 w.3 in
    let some = reading_some links (c.args.head ∷ w.1) c.args.at old.content c.args.out.now c.args.head c.loop-block.block w.1 c.loop-block.out h.few refl h.trail c.loop-block-test.false (c.loop-block.invariant.reading w.1 h.trail) in
    let works = c.loop-block.invariant.works honest some in
    (works, c.loop-block.invariant.flag honest ∙ works)

pub returns-clause-bytes : goal.returns-clause-bytes
returns-clause-bytes g c = λ tells behind trail.
    let w = c.requires.head in
    let old = g.D.Disk.shown c.args.disk.now in
    reading_all c.args.self.now.links (c.args.head ∷ behind) c.args.at old.content c.args.out.now c.loop-block.block c.loop-block.out w.3.few c.loop-block-test.false (c.loop-block.invariant.reading behind trail) tells

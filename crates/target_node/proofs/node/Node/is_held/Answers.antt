use Rattle.target_node.proofs.node.Node.is_held.Goals as goal

pub returns : goal.returns
returns g c = λ disk n image range stands here. c.a_committed_state_is_held.ensures disk n c.args.self.now.state image stands (c.has_an_image.ensures range) here

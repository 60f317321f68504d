-- A commit writes what its own call does.
use Rattle.route_session.proofs.Running.{commit_writes}
use Rattle.route_session.proofs.session.Session.run_alone.Goals as goal

pub returns-in-None-clause-writes : goal.returns-in-None-clause-writes
returns-in-None-clause-writes c =
    let made = c.commit_alone.ensures in
    let left = c.in-None.ensures in
    commit_writes c.args.command.now c.commit_alone.result c.args.self.now c.run_but_commit.new.self c.commit_alone.new.self left.left left.stays
    made.call made.written made.refused_written made.memory_written

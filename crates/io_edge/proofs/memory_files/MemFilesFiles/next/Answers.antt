use Rattle.io_edge.proofs.Pieces.{rest_of-takes}
use Rattle.io_edge.proofs.memory_files.MemFilesFiles.next.Goals as goal

pub returns-clause-bytes : goal.returns-clause-bytes
returns-clause-bytes c =
    let left = c.left_bytes-left.ensures.bytes in
    rest_of-takes c.args.self.now.files c.args.self.now.current c.args.self.now.at c.args.self.now.piece _ c.copy_front-n.new.into
    c.args.self.now.some_piece (rw left at c.copy_front-n.ensures.count) (rw left at c.copy_front-n.ensures.bytes)

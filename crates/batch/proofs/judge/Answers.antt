-- `batch::judge` meets its contract: what the two calls ensured, put together. Assumes nothing.
use Rattle.batch.proofs.judge.Goals as goal

pub returns : goal.returns
returns c = cc

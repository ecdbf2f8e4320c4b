pub mod Standing
pub mod BlockRuns
pub mod CutRuns
pub mod CoreRuns

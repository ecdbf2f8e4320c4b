pub mod StatementRules

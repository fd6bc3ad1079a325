pub mod RuleRows
